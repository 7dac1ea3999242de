-- The phase in which a message without lists may come.
use Rattle.for_c.proofs.Common.{◌≡◌, false, refl, inr, MayCome, is_startup, comes_open, message_of}
use Rattle.for_c.specs.declared.message.PlainMessage.{PlainMessage}
use Rattle.for_c.specs.declared.message.PlainMessage.TheVariants.{CancelRequest, Close, CopyData, CopyDone, CopyFail, Describe, Execute, Flush, PasswordMessage, Query, SaslInitialResponse, SaslResponse, SslRequest, Sync, Terminate}

pub may_come : (m : PlainMessage) → MayCome (message_of m) (comes_open m)
may_come (CancelRequest process_id secret_key) = (inr tt, tt)
may_come (Close variant name) = λ e. absurd cc
may_come (CopyData bytes) = λ e. absurd cc
may_come CopyDone = λ e. absurd cc
may_come (CopyFail reason) = λ e. absurd cc
may_come (Describe variant name) = λ e. absurd cc
may_come (Execute portal max_rows) = λ e. absurd cc
may_come Flush = λ e. absurd cc
may_come (PasswordMessage password) = λ e. absurd cc
may_come (Query text) = λ e. absurd cc
may_come (SaslInitialResponse mechanism response) = λ e. absurd cc
may_come (SaslResponse response) = λ e. absurd cc
may_come SslRequest = (inr tt, tt)
may_come Sync = λ e. absurd cc
may_come Terminate = λ e. absurd cc

pub no_startup : (m : PlainMessage) → is_startup (message_of m) ≡ false
no_startup (CancelRequest process_id secret_key) = refl
no_startup (Close variant name) = refl
no_startup (CopyData bytes) = refl
no_startup CopyDone = refl
no_startup (CopyFail reason) = refl
no_startup (Describe variant name) = refl
no_startup (Execute portal max_rows) = refl
no_startup Flush = refl
no_startup (PasswordMessage password) = refl
no_startup (Query text) = refl
no_startup (SaslInitialResponse mechanism response) = refl
no_startup (SaslResponse response) = refl
no_startup SslRequest = refl
no_startup Sync = refl
no_startup Terminate = refl
