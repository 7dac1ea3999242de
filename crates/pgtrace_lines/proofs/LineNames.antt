-- Each name that a line has is one that words mean.
use Rattle.pgtrace_lines.proofs.Common.{◌≡◌, ℕ, Bool, true, false, List, [], ◌∷◌, ◌++◌, Option, Some, None, Result, Ok, Err, refl, sym, ap, ◌∙◌, append_assoc, map_push, suc, length, get_or, arith, inl, inr, map, ◌==◌, if◌then◌else◌, codes, bytes_eq, Error, ClientError, ClientMessage, Message, Authentication, AuthenticationOk, AuthenticationKerberosV5, AuthenticationCleartextPassword, AuthenticationMd5Password, AuthenticationScmCredential, AuthenticationGss, AuthenticationGssContinue, AuthenticationSspi, AuthenticationSasl, AuthenticationSaslContinue, AuthenticationSaslFinal, ParseComplete, BindComplete, CloseComplete, NotificationResponse, CommandComplete, DataRow, ErrorResponse, CopyInResponse, CopyOutResponse, EmptyQueryResponse, BackendKeyData, NegotiateProtocolVersion, NoticeResponse, ParameterStatus, RowDescription, ReadyForQuery, CopyDone, CopyData, NoData, PortalSuspended, ParameterDescription, Style, Beginning, Messages, Replicating, Encrypted, Side, Server, Client, LineOf, answer_name, client_frame_name, client_name, is_reported, name_in, name_of, server_name, unread_name}
use Rattle.std.specs.List.{cons_option, filter_map, find}
use Rattle.std.specs.Option.{option_or}
use Rattle.std.specs.Str.{str_eq_ignore_ascii_case, str_to_ascii_lowercase}
use Rattle.std.proofs.lemmas.List.Elements.{filter_map-append}
use Rattle.std.proofs.lemmas.List.Folds.{find-append}
use Rattle.std.proofs.lemmas.Slice.Eq.{bytes_eq-Decides}
use Rattle.pgp_frontend.specs.ClientMessage as client
use Rattle.std.specs.Borrow.{Bor}
use Rattle.std.specs.Prelude.{◌↔◌, IsTrue}
use Rattle.std.specs.Char.{to_ascii_lowercase}
use Rattle.std.proofs.lemmas.Bool.Decides.{same_from_decides}
use Rattle.pgtrace_lines.specs.LineNames.{is_unknown, line_names, name_meant, unknown_of, BeginsWithNoNames}

-- the first name that has these letters
abbrev found : List ℕ → Option (List ℕ)
found letters = find (λ name. bytes_eq (str_to_ascii_lowercase name) letters) line_names

-- a word that a name is but for the case of its letters means what the name means
alike_meant : (name word : List ℕ) → str_eq_ignore_ascii_case name word ≡ true → name_meant word ≡ name_meant name
unfolding name_meant
alike_meant name word e = ap found (sym ((bytes_eq-Decides (str_to_ascii_lowercase name) (str_to_ascii_lowercase word)).0 e))

abbrev IsMeant : List ℕ → Type 0
IsMeant name = name_meant name ≡ Some name

word_meant : (name word : List ℕ) → IsMeant name → str_eq_ignore_ascii_case name word ≡ true → name_meant word ≡ Some name
word_meant name word is e = alike_meant name word e ∙ is

message_meant : (m : Message) → IsMeant (name_of m)
unfolding line_names name_meant
message_meant (Authentication AuthenticationOk) = refl
message_meant (Authentication AuthenticationKerberosV5) = refl
message_meant (Authentication AuthenticationCleartextPassword) = refl
message_meant (Authentication (AuthenticationMd5Password salt)) = refl
message_meant (Authentication AuthenticationScmCredential) = refl
message_meant (Authentication AuthenticationGss) = refl
message_meant (Authentication (AuthenticationGssContinue bytes)) = refl
message_meant (Authentication AuthenticationSspi) = refl
message_meant (Authentication (AuthenticationSasl bytes)) = refl
message_meant (Authentication (AuthenticationSaslContinue bytes)) = refl
message_meant (Authentication (AuthenticationSaslFinal bytes)) = refl
message_meant ParseComplete = refl
message_meant BindComplete = refl
message_meant CloseComplete = refl
message_meant (NotificationResponse n) = refl
message_meant (CommandComplete tag) = refl
message_meant (DataRow row) = refl
message_meant (ErrorResponse bytes) = refl
message_meant (CopyInResponse copy) = refl
message_meant (CopyOutResponse copy) = refl
message_meant EmptyQueryResponse = refl
message_meant (BackendKeyData key) = refl
message_meant (NoticeResponse bytes) = refl
message_meant (ParameterStatus setting) = refl
message_meant (RowDescription row) = refl
message_meant (ReadyForQuery status) = refl
message_meant CopyDone = refl
message_meant (CopyData bytes) = refl
message_meant (NegotiateProtocolVersion n) = refl
message_meant NoData = refl
message_meant PortalSuspended = refl
message_meant (ParameterDescription row) = refl

client_meant : (reported : Bool) (x : ClientMessage) → IsMeant (client_name reported x)
unfolding line_names name_meant
client_meant reported (client.Bind portal statement formats values result_formats) = refl
client_meant reported (client.Close variant name) = refl
client_meant reported (client.CopyData bytes) = refl
client_meant reported client.CopyDone = refl
client_meant reported (client.CopyFail message) = refl
client_meant reported (client.Describe variant name) = refl
client_meant reported (client.Execute portal max_rows) = refl
client_meant reported client.Flush = refl
client_meant reported (client.FunctionCall function formats arguments result_format) = refl
client_meant reported (client.Parse name query param_types) = refl
client_meant reported (client.PasswordMessage password) = refl
client_meant reported (client.Query query) = refl
client_meant reported (client.SaslInitialResponse mechanism response) = refl
client_meant true (client.SaslResponse response) = refl
client_meant false (client.SaslResponse response) = refl
client_meant reported client.Sync = refl
client_meant reported client.Terminate = refl
client_meant reported (client.Startup minor parameters) = refl
client_meant reported (client.CancelRequest process_id secret_key) = refl
client_meant reported client.SslRequest = refl
client_meant reported client.GssEncRequest = refl

-- one of three
one_meant : (first second : Bool) (a b c : List ℕ) → IsMeant a → IsMeant b → IsMeant c → IsMeant (if first then a else if second then b else c)
one_meant true second a b c x y z = x
one_meant false true a b c x y z = y
one_meant false false a b c x y z = z

unread_meant : (tag : ℕ) → IsMeant (unread_name tag)
unfolding line_names name_meant
unread_meant tag = one_meant (tag == 86) (tag == 87) (codes "FunctionCallResponse") (codes "CopyBothResponse") (codes "fault") refl refl refl

byte_meant : (byte : ℕ) → IsMeant (answer_name byte)
unfolding line_names name_meant
byte_meant byte = one_meant (byte == 83) (byte == 71) (codes "SSLResponse") (codes "GSSENCResponse") (codes "SSLResponse or GSSENCResponse") refl refl refl

server_meant : (tag : ℕ) (r : Result Message Error) → IsMeant (server_name tag r)
server_meant tag (Ok m) = message_meant m
server_meant tag (Err e) = unread_meant tag

frame_meant : (reported : Bool) (r : Result ClientMessage ClientError) → IsMeant (client_frame_name reported r)
unfolding line_names name_meant
frame_meant reported (Ok x) = client_meant reported x
frame_meant reported (Err e) = refl

in_line : (style : Style) (place : ℕ) (from to : Side) (frame line : List ℕ) (is : LineOf style place from frame line to) → IsMeant (name_in style place from frame line to is)
in_line style place (Server Beginning) to frame line (inl answer) = byte_meant answer.reported.byte
in_line style place (Server Beginning) to frame line (inr first) = server_meant first.reported.first.tag first.reported.reported.result
in_line style place (Server Messages) to frame line is = server_meant is.0.first.tag is.0.reported.result
in_line style place (Server Replicating) to frame line is = server_meant is.0.first.tag is.0.reported.result
in_line style place (Server Encrypted) to frame line is = absurd is
in_line style place (Client opened kinds replicating) to frame line is = frame_meant (is_reported kinds) is.reported.result

pub line_meant : (style : Style) (place : ℕ) (from to : Side) (frame line word : List ℕ) (is : LineOf style place from frame line to) → str_eq_ignore_ascii_case (name_in style place from frame line to is) word ≡ true → name_meant word ≡ Some (name_in style place from frame line to is)
line_meant style place from to frame line word is e = word_meant (name_in style place from frame line to is) word (in_line style place from to frame line is) e

pub answer_meant : (byte : ℕ) (word : List ℕ) → str_eq_ignore_ascii_case (answer_name byte) word ≡ true → name_meant word ≡ Some (answer_name byte)
answer_meant byte word e = word_meant (answer_name byte) word (byte_meant byte) e

-- ---- the texts between commas, one after another

some_none : (x : List ℕ) → Some x ≡ None → ⊥
some_none x e = cc

-- one more is added where it is a name
pub between_more : (old all new : List (List ℕ)) (xs : List (Bor (List ℕ))) (x : Bor (List ℕ)) (name : Option (List ℕ)) → all ≡ old ++ filter_map name_meant (map (λ (text : Bor (List ℕ)). text.now) xs) → new ≡ all ++ cons_option name [] → name ≡ name_meant x.now
    → new ≡ old ++ filter_map name_meant (map (λ (text : Bor (List ℕ)). text.now) (xs ++ x ∷ []))
between_more old all new xs x name so e is =
    let before = filter_map name_meant (map (λ (text : Bor (List ℕ)). text.now) xs) in
    e ∙ ap (λ o. all ++ cons_option o []) is ∙ ap (λ l. l ++ cons_option (name_meant x.now) []) so ∙ append_assoc old before (cons_option (name_meant x.now) [])
    ∙ ap (λ l. old ++ l) (sym (filter_map-append name_meant (map (λ (text : Bor (List ℕ)). text.now) xs) (x.now ∷ []))) ∙ ap (λ l. old ++ filter_map name_meant l) (sym (map_push (λ (text : Bor (List ℕ)). text.now) xs x))

-- one more is the first unknown one where none before it is
pub unknown_more : (old new : Option (List ℕ)) (xs : List (Bor (List ℕ))) (x : Bor (List ℕ)) → old ≡ find is_unknown (map (λ (text : Bor (List ℕ)). text.now) xs) → new ≡ option_or old (find is_unknown (x.now ∷ []))
    → new ≡ find is_unknown (map (λ (text : Bor (List ℕ)). text.now) (xs ++ x ∷ []))
unknown_more old new xs x so e =
    e ∙ ap (λ o. option_or o (find is_unknown (x.now ∷ []))) so ∙ sym (find-append is_unknown (map (λ (text : Bor (List ℕ)). text.now) xs) (x.now ∷ [])) ∙ ap (find is_unknown) (sym (map_push (λ (text : Bor (List ℕ)). text.now) xs x))

-- the test of bytes is that of their letters
pub alike_tested : (b : Bool) (name word : List ℕ) → (IsTrue b ↔ (map to_ascii_lowercase name ≡ map to_ascii_lowercase word)) → b ≡ str_eq_ignore_ascii_case name word
alike_tested b name word h = same_from_decides b (str_eq_ignore_ascii_case name word) h (bytes_eq-Decides (map to_ascii_lowercase name) (map to_ascii_lowercase word))

-- ---- what words begin with

pub no_words : (words : List (Bor (List ℕ))) → length words ≡ 0 → BeginsWithNoNames (map (λ (word : Bor (List ℕ)). word.now) words)
no_words [] e names more known is = let h : 0 ≡ suc (length more) = ap length is in absurd (omega (arith, h))
no_words (word ∷ words) e names more known is = absurd (omega (arith, e))

pub unknown_begins : (words : List (Bor (List ℕ))) (first : Bor (List ℕ)) (rest : List (Bor (List ℕ))) (unknown : List ℕ) → words ≡ first ∷ rest → unknown_of first.now ≡ Some unknown → BeginsWithNoNames (map (λ (word : Bor (List ℕ)). word.now) words)
unknown_begins words first rest unknown whole e names more known is =
    let h : first.now ≡ names = ap (λ (l : List (List ℕ)). get_or l 0 []) (sym (ap (map (λ (word : Bor (List ℕ)). word.now)) whole) ∙ is) in
    some_none unknown (sym e ∙ ap unknown_of h ∙ known)
