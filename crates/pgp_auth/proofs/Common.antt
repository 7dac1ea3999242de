-- The names of other crates and of this one's specs that several proofs cite, passed on from one place. Declares nothing.
pub use Rattle.std.proofs.Common.{◌≡◌, ℕ, zero, suc, ◌<◌, ◌≤◌, true, false, List, [], ◌∷◌, refl, arith, inl, inr, slice_index, ◌+◌, ◌-◌, ◌++◌, length, get_or, set, take, map, replicate, sym, ap, ◌∙◌, bit_xor, ◌*◌, ◌/◌, ◌%◌, codes, ◌≢◌, Bool, cond, drop, add-one, ◌==◌, ◌^◌, subst, append-nil, nat_le, nat_eq, ◌&&◌, not, All, max, rules}
pub use Rattle.std.proofs.lemmas.Bool.{cases_Bool, cases_lt, and_parts, eqb-true, ltb-true, eq-eqb, ne_eqb, cases_eq, lt-ltb}
pub use Rattle.std.proofs.lemmas.Bool.Decides.{nat_tests, not_from_Decides, Decides-eqb}
pub use Rattle.std.proofs.lemmas.List.{set_at, take_more, map-append, length-map, length-take-le, append_assoc, ext_get_or, take_all, length-append, take_more_set, take-set, take-append-drop, length-set, length-drop, append_cancel_left, get_or_past, append_cancel_right, get_or-take, drop_more, drop_all, take_at, drop_at, get_or_append_left, get_or_at}
pub use Rattle.std.proofs.lemmas.List.Elements.{All-nil, All-cons, All-append, All-replicate, All-from_get_or, All-head, All-tail}
pub use Rattle.std.proofs.lemmas.List.Sums.{AllPass-from_list_all, prefix_len_passes, prefix_len-le-length, prefix_len_is}
pub use Rattle.std.proofs.lemmas.Nat.{xor_of_8}
pub use Rattle.std.proofs.lemmas.Simd.{length-zip2, get_or-zip2, length-chunk, get_or-chunk, get_or-put_chunk_at, get_or-put_chunk_below, get_or-put_chunk_above}
pub use Rattle.std.proofs.lemmas.Slice.Eq.{bytes_eq-Decides, starts_is, strip_prefix_is}
pub use Rattle.std.proofs.lemmas.Str.{is_utf8-from_IsUtf8, IsUtf8-from_is_utf8, IsUtf8-from_ascii, IsUtf8-append, IsUtf8-take, IsUtf8-drop, IsUtf8-between, IsCharBoundary-before_ascii, IsCharBoundary-after_ascii, IsUtf8-past_char, IsAscii-append, IsUtf8-string_bytes}
pub use Rattle.std.proofs.lemmas.Str.Ascii.{IsAscii-nil, IsAscii-cons}
pub use Rattle.std.specs.Fmt.{decimal, digits_onto, digit_glyph}
unfoldable pub use Rattle.std.specs.Fmt.{digits}
pub use Rattle.std.specs.List.{list_any, AllPass, list_all, prefix_len, starts_with, count_by}
pub use Rattle.std.specs.Prelude.{Option, unwrap_or, nat_lt, IsOk, MatchResult, pos, ◌⊎◌, ◌↔◌, IsTrue, Some, slice_get, if◌then◌else◌, None, option_map, ◌||◌, MatchOption, string_bytes}
pub use Rattle.std.specs.Result.{IfErr, IsErr, IsErrAnd, OnOk}
pub use Rattle.std.specs.Simd.Lanes.{put_chunk, chunk}
pub use Rattle.std.specs.Str.{is_utf8, IsUtf8, IsAscii, IsNotAscii, bytes_eq, IsCharBoundary}
pub use Rattle.std.specs.declared.result.Result.{Result}
pub use Rattle.std.specs.declared.result.Result.TheVariants.{Ok, Err}
pub use Rattle.base64.proofs.EngineFacts.{decode_of-encode_of, decode_of_strict}
pub use Rattle.base64.specs.Engines.{standard}
pub use Rattle.base64.specs.GeneralPurpose.{decode_of}
pub use Rattle.base64.specs.Rfc4648.{encode_group, padding_len}
unfoldable pub use Rattle.base64.specs.Rfc4648.{encode_symbols}
pub use Rattle.base64.specs.declared.decode.DecodeError.{DecodeError}
pub use Rattle.hex.proofs.HexLemmas.{IsAscii-encode_with, length-encode_with}
pub use Rattle.hex.specs.Hex.{encode_lower, lower_digits}
unfoldable pub use Rattle.hex.specs.Hex.{encode_with}
pub use Rattle.md5.specs.Md5.{md5}
pub use Rattle.pgp_base.proofs.Parts.{if_err_at}
pub use Rattle.pgp_base.specs.Wire.{IsBytes}
unfoldable pub use Rattle.pgp_base.specs.Wire.{uint32}
pub use Rattle.sha2.proofs.Facts256.{length-sha256}
unfoldable pub use Rattle.sha2.specs.Sha256.{sha256, digest_bytes}
pub use lib.Bits.{xor_assoc, xor_self, xor_zero_r}
pub use Rattle.pgp_auth.specs.Base64.{base64, Shows}
pub use Rattle.pgp_auth.specs.Doubling.{is_doubled}
unfoldable pub use Rattle.pgp_auth.specs.Doubling.{doubled}
pub use Rattle.pgp_auth.specs.Hmac.{block}
unfoldable pub use Rattle.pgp_auth.specs.Hmac.{padded, mac}
pub use Rattle.pgp_auth.specs.IteratedKey.{xor_bytes, salted}
unfoldable pub use Rattle.pgp_auth.specs.IteratedKey.{nth_code, xor_of_codes}
pub use Rattle.pgp_auth.specs.Lexer.{Body, empty, join, two_quotes, two_slashes, itself, Quoted, Literal, plain, escape, IsPlain, NeedsNoEscape, Identifier}
pub use Rattle.pgp_auth.specs.MacBlocks.{blocks_of}
unfoldable pub use Rattle.pgp_auth.specs.MacBlocks.{code_of}
pub use Rattle.pgp_auth.specs.Md5Text.{md5_verifier, md5_answer, AnswersStored}
unfoldable pub use Rattle.pgp_auth.specs.Md5Text.{md5_text}
unfoldable pub use Rattle.pgp_auth.specs.Nonce.{drawn_char, drawn_chars}
pub use Rattle.pgp_auth.specs.Pattern.{Run, word, Part, Begins, here, character, run, Character, EndsRun, Leaves}
pub use Rattle.pgp_auth.specs.ScramAnswer.{client_key, client_proof, final_front, AnswersGranted, AnswersText, RefusesText}
pub use Rattle.pgp_auth.specs.ScramClient.{Answered, Begun, AwaitsFirst, AwaitsFinal, Client, Answers, UpdateRefuses, UpdateRefused, FinishRefuses, FinishRefused, Serves, first_text, signature_of, NotVerified, message_of, Finished, NotShown, TakesMemory, long, State, Over, MadeSome}
pub use Rattle.pgp_auth.specs.ScramErrorView.{refusal, number_of}
pub use Rattle.pgp_auth.specs.ScramPartView.{parts_of, admits}
pub use Rattle.pgp_auth.specs.ScramReading.{begins_with_e, refusal_of, front_of, rest_of, ◌>>=◌, FirstParts, AdmitsParts, Granted, grant_read, grant_salt}
unfoldable pub use Rattle.pgp_auth.specs.ScramReading.{read_run, expected, ended, count_of, read_first, grant, grant_parts}
pub use Rattle.pgp_auth.specs.ScramRefusal.{Refusal, OutOfMemory, Meets, Verifies, NotUtf8, InvalidBase64, RefusesFinal, not_utf8, server, no_base64, ShowsOther, error_parts, server_final_parts, FinalForm, error, other, trailing, IsServerError, place, unexpected, server_first_parts, InvalidNumber, Trailing, InvalidNonce, TooManyIterations, Admitted, RefusesFirst, no_number, other_nonce, too_many, no_salt, WrongState, UnexpectedEnd, UnexpectedCharacter, Verification}
pub use Rattle.pgp_auth.specs.ScramServer.{Signs, Accepts, Expects, comma, CutAfterSecondComma}
pub use Rattle.pgp_auth.specs.ScramServerView.{verifier_of, challenge_of, serving_of}
pub use Rattle.pgp_auth.specs.ScramServing.{Offer, NotOffered, Declined, Chosen, IsTaken, Serving, Challenge, Server, answer_of, server_first, Opens, Challenges, FirstRefuses, FirstRefused, AcceptsFinal, Shown, Admits, FinalRefuses, FinalRefused, RefusesProof, other_exchange, no_proof, other_proof, mock, NotOpened, first_of, ExpectsOf, NotAdmitted, ShowsKey}
pub use Rattle.pgp_auth.specs.ScramStateView.{state_of, answered_of, begun_of}
pub use Rattle.pgp_auth.specs.ScramText.{Binding, is_base64_char, is_nonce_char, Unsupported, Unrequested, TlsServerEndPoint, IsNonce, gs2_header, named_bare, first_bare, is_value_char, ServerFinal, number, is_digit, NamesCount, ServerFirst, IsUserName, binding_data, without_proof, with_proof, auth_message, client_first, no_more, is_attribute_char, SaslName, equals}
unfoldable pub use Rattle.pgp_auth.specs.ScramText.{number_from}
pub use Rattle.pgp_auth.specs.StoredReading.{StoredParts, pieces_of}
unfoldable pub use Rattle.pgp_auth.specs.StoredReading.{read_parts, read_stored}
pub use Rattle.pgp_auth.specs.Verifier.{Verifier}
unfoldable pub use Rattle.pgp_auth.specs.Verifier.{verifier, verifier_text}
pub use Rattle.pgp_auth.specs.declared.scram.error.ScramError.{ScramError}
pub use Rattle.pgp_auth.specs.declared.scram.reading.Fault.{Fault}
pub use Rattle.pgp_auth.specs.declared.scram.server_error.ServerError.{ServerError}
