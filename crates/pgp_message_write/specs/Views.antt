-- What the code's columns and fields say.
use Rattle.pgp_message.specs.Items.{FieldPart, ErrorPart}
use Rattle.pgp_message_write.specs.declared.notice.ErrorField.{ErrorField}
use Rattle.pgp_message_write.specs.declared.row.Column.{Column}

abbrev pub shown_field : ErrorField → ErrorPart
shown_field field = record { code = field.code; value = field.value.now }

abbrev pub shown_column : Column → FieldPart
shown_column column = record {
  name = column.name.now;
  table_oid = column.table_oid;
  column_id = column.column_id;
  type_oid = column.type_oid;
  type_size = column.type_size;
  type_modifier = column.type_modifier;
  format = column.format;
}
