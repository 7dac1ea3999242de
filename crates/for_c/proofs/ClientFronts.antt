-- The parts of a client's message stand where they are reported to.
use Rattle.for_c.proofs.Common.{◌≡◌, ℕ, ℤ, pos, ◌+◌, ◌*◌, ◌-◌, ◌≤◌, Bool, true, false, List, [], ◌∷◌, ◌++◌, length, take, drop, Option, Some, None, Result, Ok, Err, refl, sym, ap, ◌∙◌, subst, arith, inl, inr, length-append, append_assoc, ◌≢◌, flat_map, drop-append_seam, int16, int32, uint32, oid, nullable, counted, text, counted_length, oid_number, ClientMessage, Bind, Close, CopyData, CopyDone, CopyFail, Describe, Execute, Flush, FunctionCall, Parse, PasswordMessage, Query, SaslInitialResponse, SaslResponse, Sync, Terminate, Startup, CancelRequest, SslRequest, GssEncRequest, PasswordKind, pair, framed, payload, minor_code, bytes_of, framed_length, int16_length, length-int32, tagged_length, UnknownPacket, Reading, after_text, numbers_at, past, place, IsMissing, missing_from}
use Rattle.pgp_frontend_read.specs.Step.{Step, Unread, place as length_place}
use Rattle.pgp_frontend_read.specs.declared.error.ClientError.{ClientError}
use Rattle.for_c.specs.ClientFront.{Misses, ReportsClient, ShowsAll, code_of, kind_reported}
use Rattle.for_c.specs.ClientParts.{ArePartsInside, Shows, no_client_parts}
use Rattle.for_c.proofs.Announced.{of_client}
use Rattle.for_c.specs.declared.client_front.PgpClientMessage.{PgpClientMessage}
use Rattle.for_c.specs.declared.client_places.PgpClientParts.{PgpClientParts}
use Rattle.for_c.proofs.ClientPlaces.{At, after_text_is, here, int16s_length, items_at, listed, next, numbers_begin, numbers_end, past_is, text_here}
use Rattle.for_c.proofs.Fronts.{none_left}

-- ---- where a payload begins

tagged_at : (bytes new : List ℕ) (tag n : ℕ) (body : List ℕ) → bytes ≡ (tag ∷ uint32 n ++ body) ++ new → At bytes new 5 body
unfolding uint32
tagged_at bytes new tag n body whole = ap (λ l. drop 5 l) whole

opening_at : (bytes new : List ℕ) (n : ℕ) (code : ℤ) (body : List ℕ) → bytes ≡ (uint32 n ++ (int32 code ++ body)) ++ new → At bytes new 8 body
unfolding uint32
opening_at bytes new n code body whole =
    let four : At bytes new 4 (int32 code ++ body) = ap (λ l. drop 4 l) whole in
    next bytes new 4 8 (int32 code) body (ap (λ k. 4 + k) (sym (length-int32 code))) four

text_size : (z : List ℕ) → length (text z) ≡ length z + 1
text_size z = length-append z (0 ∷ [])

-- ---- all places lie in the frame

inside_one : (frame at len : ℕ) (number : ℤ) (byte : ℕ) (null : Bool) → at + len ≤ frame → ArePartsInside frame (record no_client_parts { first = record { at = at; len = len }; number = number; byte = byte; is_null = null })
inside_one frame at len number byte null h = record { first = h; second = omega arith; formats = (omega arith, omega arith); items = (omega arith, omega arith); result_formats = (omega arith, omega arith) }

inside_none : (frame : ℕ) (number : ℤ) → ArePartsInside frame (record no_client_parts { number = number })
inside_none frame number = record { first = omega arith; second = omega arith; formats = (omega arith, omega arith); items = (omega arith, omega arith); result_formats = (omega arith, omega arith) }

-- what is said of the places of a message's parts
abbrev Placed : List ℕ → ClientMessage → ℕ → Type 0
Placed bytes m frame = Shows bytes m (place m frame) × ArePartsInside frame (place m frame)

module _ (bytes new : List ℕ) (frame : ℕ) where
  -- a text alone
  text_alone : (tag n : ℕ) (z : List ℕ) → bytes ≡ (tag ∷ uint32 n ++ (text z ++ [])) ++ new → frame ≡ 5 + length (text z ++ [])
      → (take (length z) (drop 5 bytes) ≡ z) × (5 + length z ≤ frame)
  text_alone tag n z whole is =
      let at = tagged_at bytes new tag n (text z ++ []) whole in
      (text_here bytes new 5 z [] at, omega (arith, is, text_size z, length-append (text z) []))

  -- bytes alone
  bytes_alone : (tag n : ℕ) (z : List ℕ) → bytes ≡ (tag ∷ uint32 n ++ (z ++ [])) ++ new → frame ≡ 5 + length (z ++ [])
      → (take (frame - 5) (drop 5 bytes) ≡ z) × (5 + (frame - 5) ≤ frame)
  bytes_alone tag n z whole is =
      let at = tagged_at bytes new tag n (z ++ []) whole in
      let size : frame - 5 ≡ length z = omega (arith, is, length-append z []) in
      (ap (λ k. take k (drop 5 bytes)) size ∙ here bytes new 5 z [] at, omega (arith, is))

  -- a letter and a name
  name_behind : (tag n letter : ℕ) (z : List ℕ) → bytes ≡ (tag ∷ uint32 n ++ ((letter ∷ []) ++ (text z ++ []))) ++ new → frame ≡ 5 + length ((letter ∷ []) ++ (text z ++ []))
      → (take (length z) (drop 6 bytes) ≡ z) × (6 + length z ≤ frame)
  name_behind tag n letter z whole is =
      let at = tagged_at bytes new tag n ((letter ∷ []) ++ (text z ++ [])) whole in
      let six = next bytes new 5 6 (letter ∷ []) (text z ++ []) refl at in
      (text_here bytes new 6 z [] six, omega (arith, is, text_size z, length-append (text z) []))

  module _ (room : frame ≤ length bytes) where
    bind_placed : (portal statement : List ℕ) (formats : List ℤ) (values : List (Option (List ℕ))) (results : List ℤ)
        → bytes ≡ bytes_of (Bind portal statement formats values results) ++ new → frame ≡ length (bytes_of (Bind portal statement formats values results)) → Placed bytes (Bind portal statement formats values results) frame
    bind_placed portal statement formats values results whole size =
        let t4 = counted int16 results ++ [] in
        let t3 = counted nullable values ++ t4 in
        let t2 = counted int16 formats ++ t3 in
        let t1 = text statement ++ t2 in
        let k1 = 5 + length portal + 1 in
        let k2 = k1 + length statement + 1 in
        let k3 = k2 + 2 + 2 * length formats in
        let k4 = k3 + 2 + length (flat_map nullable values) in
        let fl = int16s_length formats in
        let rl = int16s_length results in
        let total : frame ≡ k4 + 2 + 2 * length results =
        omega (
          arith,
          size,
          tagged_length 66 (text portal ++ t1),
          length-append (text portal) t1,
          text_size portal,
          length-append (text statement) t2,
          text_size statement,
          length-append (counted int16 formats) t3,
          counted_length int16 formats,
          fl,
          length-append (counted nullable values) t4,
          counted_length nullable values,
          length-append (counted int16 results) [],
          counted_length int16 results,
          rl,
        ) in
        let a0 = tagged_at bytes new 66 _ (text portal ++ t1) whole in
        let a1 : At bytes new k1 t1 = next bytes new 5 k1 (text portal) t1 (omega (arith, text_size portal)) a0 in
        let a2 : At bytes new k2 t2 = next bytes new k1 k2 (text statement) t2 (omega (arith, text_size statement)) a1 in
        let f2 = items_at bytes new k2 (length formats) (flat_map int16 formats) t3 a2 in
        let a3 : At bytes new k3 t3 = next bytes new (k2 + 2) k3 (flat_map int16 formats) t3 (omega (arith, fl)) f2 in
        let v3 = items_at bytes new k3 (length values) (flat_map nullable values) t4 a3 in
        let a4 : At bytes new k4 t4 = next bytes new (k3 + 2) k4 (flat_map nullable values) t4 refl v3 in
        let r4 = items_at bytes new k4 (length results) (flat_map int16 results) [] a4 in
        let second : after_text frame 5 (length portal) ≡ k1 = after_text_is frame 5 5 (length portal) refl (omega (arith, total)) in
        let third : after_text frame (after_text frame 5 (length portal)) (length statement) ≡ k2 = after_text_is frame _ k1 (length statement) second (omega (arith, total)) in
        let begins = numbers_begin frame _ k2 (length formats) third (omega (arith, total)) in
        let ends : (numbers_at frame (after_text frame (after_text frame 5 (length portal)) (length statement)) (length formats)).end ≡ k3 = numbers_end frame _ k2 (length formats) third (omega (arith, total)) in
        let items : past frame (numbers_at frame (after_text frame (after_text frame 5 (length portal)) (length statement)) (length formats)).end 2 ≡ k3 + 2 =
        ap (λ a. past frame a 2) ends ∙ past_is frame k3 2 (omega (arith, total)) in
        let last : frame - length results - length results ≡ k4 + 2 = omega (arith, total) in (
          (
            refl,
            text_here bytes new 5 portal t1 a0,
            ap (λ a. take (length statement) (drop a bytes)) second ∙ text_here bytes new k1 statement t2 a1,
            (listed bytes new _ _ (k2 + 2) (flat_map int16 formats) t3 begins f2 (ends ∙ omega (arith, fl)) (omega (arith, ends, total, room)), refl),
            (listed bytes new _ _ (k3 + 2) (flat_map nullable values) t4 items v3 (omega (arith, total)) (omega (arith, total, room)), refl),
            (listed bytes new _ _ (k4 + 2) (flat_map int16 results) [] last r4 (omega (arith, total, rl)) room, refl),
          ),
          record {
            first = omega (arith, total);
            second = omega (arith, second, total);
            formats = (omega (arith, begins, ends), omega (arith, ends, total));
            items = (omega (arith, items, total), omega (arith, total));
            result_formats = (omega (arith, total), omega arith);
          },
        )

    call_placed : (function : ℕ) (formats : List ℤ) (arguments : List (Option (List ℕ))) (result_format : ℤ)
        → bytes ≡ bytes_of (FunctionCall function formats arguments result_format) ++ new → frame ≡ length (bytes_of (FunctionCall function formats arguments result_format)) → Placed bytes (FunctionCall function formats arguments result_format) frame
    call_placed function formats arguments result_format whole size =
        let t3 = int16 result_format ++ [] in
        let t2 = counted nullable arguments ++ t3 in
        let t1 = counted int16 formats ++ t2 in
        let k2 = 9 + 2 + 2 * length formats in
        let k3 = k2 + 2 + length (flat_map nullable arguments) in
        let fl = int16s_length formats in
        let total : frame ≡ k3 + 2 =
        omega (
          arith,
          size,
          tagged_length 70 (oid function ++ t1),
          length-append (oid function) t1,
          oid_number.len function,
          length-append (counted int16 formats) t2,
          counted_length int16 formats,
          fl,
          length-append (counted nullable arguments) t3,
          counted_length nullable arguments,
          length-append (int16 result_format) [],
          int16_length result_format,
        ) in
        let a0 = tagged_at bytes new 70 _ (oid function ++ t1) whole in
        let a1 : At bytes new 9 t1 = next bytes new 5 9 (oid function) t1 (ap (λ k. 5 + k) (sym (oid_number.len function))) a0 in
        let f1 = items_at bytes new 9 (length formats) (flat_map int16 formats) t2 a1 in
        let a2 : At bytes new k2 t2 = next bytes new 11 k2 (flat_map int16 formats) t2 (omega (arith, fl)) f1 in
        let v2 = items_at bytes new k2 (length arguments) (flat_map nullable arguments) t3 a2 in
        let begins = numbers_begin frame 9 9 (length formats) refl (omega (arith, total)) in
        let ends : (numbers_at frame 9 (length formats)).end ≡ k2 = numbers_end frame 9 9 (length formats) refl (omega (arith, total)) in
        let items : past frame (numbers_at frame 9 (length formats)).end 2 ≡ k2 + 2 = ap (λ a. past frame a 2) ends ∙ past_is frame k2 2 (omega (arith, total)) in (
          (
            refl,
            (listed bytes new _ _ 11 (flat_map int16 formats) t2 begins f1 (ends ∙ omega (arith, fl)) (omega (arith, ends, total, room)), refl),
            (listed bytes new _ _ (k2 + 2) (flat_map nullable arguments) t3 items v2 (omega (arith, total)) (omega (arith, total, room)), refl),
          ),
          record {
            first = omega arith;
            second = omega arith;
            formats = (omega (arith, begins, ends), omega (arith, ends, total));
            items = (omega (arith, items, total), omega (arith, total));
            result_formats = (omega arith, omega arith);
          },
        )

    parse_placed : (name query : List ℕ) (types : List ℕ) → bytes ≡ bytes_of (Parse name query types) ++ new → frame ≡ length (bytes_of (Parse name query types)) → Placed bytes (Parse name query types) frame
    parse_placed name query types whole size =
        let t2 = counted oid types ++ [] in
        let t1 = text query ++ t2 in
        let k1 = 5 + length name + 1 in
        let k2 = k1 + length query + 1 in
        let total : frame ≡ k2 + 2 + length (flat_map oid types) =
        omega (
          arith,
          size,
          tagged_length 80 (text name ++ t1),
          length-append (text name) t1,
          text_size name,
          length-append (text query) t2,
          text_size query,
          length-append (counted oid types) [],
          counted_length oid types,
        ) in
        let a0 = tagged_at bytes new 80 _ (text name ++ t1) whole in
        let a1 : At bytes new k1 t1 = next bytes new 5 k1 (text name) t1 (omega (arith, text_size name)) a0 in
        let a2 : At bytes new k2 t2 = next bytes new k1 k2 (text query) t2 (omega (arith, text_size query)) a1 in
        let o2 = items_at bytes new k2 (length types) (flat_map oid types) [] a2 in
        let second : after_text frame 5 (length name) ≡ k1 = after_text_is frame 5 5 (length name) refl (omega (arith, total)) in
        let third : after_text frame (after_text frame 5 (length name)) (length query) ≡ k2 = after_text_is frame _ k1 (length query) second (omega (arith, total)) in
        let items : past frame (after_text frame (after_text frame 5 (length name)) (length query)) 2 ≡ k2 + 2 = ap (λ a. past frame a 2) third ∙ past_is frame k2 2 (omega (arith, total)) in (
          (
            refl,
            text_here bytes new 5 name t1 a0,
            ap (λ a. take (length query) (drop a bytes)) second ∙ text_here bytes new k1 query t2 a1,
            (listed bytes new _ _ (k2 + 2) (flat_map oid types) [] items o2 total room, refl),
          ),
          record {
            first = omega (arith, total);
            second = omega (arith, second, total);
            formats = (omega arith, omega arith);
            items = (omega (arith, items, total), omega arith);
            result_formats = (omega arith, omega arith);
          },
        )

    sasl_placed : (mechanism response : List ℕ) → bytes ≡ bytes_of (SaslInitialResponse mechanism (Some response)) ++ new → frame ≡ length (bytes_of (SaslInitialResponse mechanism (Some response))) → Placed bytes (SaslInitialResponse mechanism (Some response)) frame
    sasl_placed mechanism response whole size =
        let t1 = (uint32 (length response) ++ response) ++ [] in
        let k1 = 5 + length mechanism + 1 in
        let long : length (uint32 (length response)) ≡ 4 = oid_number.len (length response) in
        let total : frame ≡ k1 + 4 + length response =
        omega (arith, size, tagged_length 112 (text mechanism ++ t1), length-append (text mechanism) t1, text_size mechanism, length-append (uint32 (length response) ++ response) [], length-append (uint32 (length response)) response, long) in
        let a0 = tagged_at bytes new 112 _ (text mechanism ++ t1) whole in
        let a1 : At bytes new k1 t1 = next bytes new 5 k1 (text mechanism) t1 (omega (arith, text_size mechanism)) a0 in
        let a2 : At bytes new (k1 + 4) (response ++ []) =
        next bytes new k1 (k1 + 4) (uint32 (length response)) (response ++ []) (ap (λ n. k1 + n) (sym long)) (a1 ∙ ap (λ l. l ++ new) (append_assoc (uint32 (length response)) response [])) in
        let second : frame - length response ≡ k1 + 4 = omega (arith, total) in (
          (refl, text_here bytes new 5 mechanism t1 a0, ap (λ a. take (length response) (drop a bytes)) second ∙ here bytes new (k1 + 4) response [] a2),
          record {
            first = omega (arith, total);
            second = omega (arith, total);
            formats = (omega arith, omega arith);
            items = (omega arith, omega arith);
            result_formats = (omega arith, omega arith);
          },
        )

    startup_placed : (minor : ℕ) (parameters : List (List ℕ × List ℕ)) → bytes ≡ bytes_of (Startup minor parameters) ++ new → frame ≡ length (bytes_of (Startup minor parameters)) → Placed bytes (Startup minor parameters) frame
    startup_placed minor parameters whole size =
        let pairs = flat_map pair parameters ++ 0 ∷ [] in
        let code = minor_code minor in
        let total : frame ≡ 8 + length pairs = omega (arith, size, framed_length (int32 code ++ (pairs ++ [])), length-append (int32 code) (pairs ++ []), length-int32 code, length-append pairs []) in
        let at = opening_at bytes new _ code (pairs ++ []) whole in (
          (refl, (listed bytes new 8 frame 8 pairs [] refl at total room, refl)),
          record {
            first = omega arith;
            second = omega arith;
            formats = (omega arith, omega arith);
            items = (omega (arith, total), omega arith);
            result_formats = (omega arith, omega arith);
          },
        )

  cancel_placed : (process_id : ℤ) (key : List ℕ) → bytes ≡ bytes_of (CancelRequest process_id key) ++ new → frame ≡ length (bytes_of (CancelRequest process_id key)) → Placed bytes (CancelRequest process_id key) frame
  cancel_placed process_id key whole size =
      let code : ℤ = pos 80877102 in
      let t1 = int32 process_id ++ (key ++ []) in
      let total : frame ≡ 12 + length key =
      omega (arith, size, framed_length (int32 code ++ t1), length-append (int32 code) t1, length-int32 code, length-append (int32 process_id) (key ++ []), length-int32 process_id, length-append key []) in
      let a8 = opening_at bytes new _ code t1 whole in
      let a12 = next bytes new 8 12 (int32 process_id) (key ++ []) (ap (λ k. 8 + k) (sym (length-int32 process_id))) a8 in
      let len : frame - 12 ≡ length key = omega (arith, total) in
      ((refl, ap (λ k. take k (drop 12 bytes)) len ∙ here bytes new 12 key [] a12), inside_one frame 12 (frame - 12) process_id 0 false (omega (arith, total)))

  execute_placed : (portal : List ℕ) (max_rows : ℤ) → bytes ≡ bytes_of (Execute portal max_rows) ++ new → frame ≡ length (bytes_of (Execute portal max_rows)) → Placed bytes (Execute portal max_rows) frame
  execute_placed portal max_rows whole size =
      let t1 = int32 max_rows ++ [] in
      let at = tagged_at bytes new 69 _ (text portal ++ t1) whole in
      ((refl, text_here bytes new 5 portal t1 at), inside_one frame 5 (length portal) max_rows 0 false (omega (arith, size, tagged_length 69 (text portal ++ t1), length-append (text portal) t1, text_size portal)))

  no_response_placed : (mechanism : List ℕ) → bytes ≡ bytes_of (SaslInitialResponse mechanism None) ++ new → frame ≡ length (bytes_of (SaslInitialResponse mechanism None)) → Placed bytes (SaslInitialResponse mechanism None) frame
  no_response_placed mechanism whole size =
      let t1 = nullable None ++ [] in
      let at = tagged_at bytes new 112 _ (text mechanism ++ t1) whole in
      ((refl, text_here bytes new 5 mechanism t1 at), inside_one frame 5 (length mechanism) (pos 0) 0 true (omega (arith, size, tagged_length 112 (text mechanism ++ t1), length-append (text mechanism) t1, text_size mechanism)))

  -- the size of a tagged message's frame
  sized : (tag : ℕ) (body : List ℕ) → frame ≡ length (framed (Some tag) body) → frame ≡ 5 + length body
  sized tag body size = omega (arith, size, tagged_length tag body)

  placed : (m : ClientMessage) → bytes ≡ bytes_of m ++ new → frame ≡ length (bytes_of m) → frame ≤ length bytes → Placed bytes m frame
  placed (Bind portal statement formats values results) whole size room = bind_placed room portal statement formats values results whole size
  placed (Close variant name) whole size room =
      let t = name_behind 67 (length (payload (Close variant name)) + 4) variant name whole (sized 67 (payload (Close variant name)) size) in
      ((refl, t.0), inside_one frame 6 (length name) (pos 0) variant false t.1)
  placed (CopyData z) whole size room =
      let t = bytes_alone 100 _ z whole (sized 100 _ size) in
      ((refl, t.0), inside_one frame 5 (frame - 5) (pos 0) 0 false t.1)
  placed CopyDone whole size room = (refl, inside_none frame (pos 0))
  placed (CopyFail z) whole size room =
      let t = text_alone 102 _ z whole (sized 102 _ size) in
      ((refl, t.0), inside_one frame 5 (length z) (pos 0) 0 false t.1)
  placed (Describe variant name) whole size room =
      let t = name_behind 68 (length (payload (Describe variant name)) + 4) variant name whole (sized 68 (payload (Describe variant name)) size) in
      ((refl, t.0), inside_one frame 6 (length name) (pos 0) variant false t.1)
  placed (Execute portal max_rows) whole size room = execute_placed portal max_rows whole size
  placed Flush whole size room = (refl, inside_none frame (pos 0))
  placed (FunctionCall function formats arguments result_format) whole size room = call_placed room function formats arguments result_format whole size
  placed (Parse name query types) whole size room = parse_placed room name query types whole size
  placed (PasswordMessage z) whole size room =
      let t = text_alone 112 _ z whole (sized 112 _ size) in
      ((refl, t.0), inside_one frame 5 (length z) (pos 0) 0 false t.1)
  placed (Query z) whole size room =
      let t = text_alone 81 _ z whole (sized 81 _ size) in
      ((refl, t.0), inside_one frame 5 (length z) (pos 0) 0 false t.1)
  placed (SaslInitialResponse mechanism None) whole size room = no_response_placed mechanism whole size
  placed (SaslInitialResponse mechanism (Some response)) whole size room = sasl_placed room mechanism response whole size
  placed (SaslResponse z) whole size room =
      let t = bytes_alone 112 _ z whole (sized 112 _ size) in
      ((refl, t.0), inside_one frame 5 (frame - 5) (pos 0) 0 false t.1)
  placed Sync whole size room = (refl, inside_none frame (pos 0))
  placed Terminate whole size room = (refl, inside_none frame (pos 0))
  placed (Startup minor parameters) whole size room = startup_placed room minor parameters whole size
  placed (CancelRequest process_id key) whole size room = cancel_placed process_id key whole size
  placed SslRequest whole size room = (refl, inside_none frame (pos 0))
  placed GssEncRequest whole size room = (refl, inside_none frame (pos 0))

-- ---- what is left is what stands after the frame

front_left : (bytes front new : List ℕ) → bytes ≡ front ++ new → drop (length bytes - length new) bytes ≡ new
front_left bytes front new whole =
    let count : length bytes - length new ≡ length front = omega (arith, ap length whole, length-append front new) in
    ap (λ i. drop i bytes) count ∙ (ap (λ l. drop (length front) l) whole ∙ drop-append_seam front new)

bytes_in : Unread → List ℕ
bytes_in u = u.bytes

left_is : (kind : PasswordKind) (bytes : List ℕ) (opened : Bool) (r : Result (Option ClientMessage) ClientError) (new : Unread) → Step kind (record { bytes = bytes; opened = opened }) r new
    → drop (length bytes - length new.bytes) bytes ≡ new.bytes
left_is kind bytes opened (Ok None) new s = none_left bytes new.bytes (ap (λ (u : Unread). u.bytes) s.1)
left_is kind bytes opened (Ok (Some m)) new s = front_left bytes (bytes_of m) new.bytes s.stands.whole
left_is kind bytes opened (Err e) new s = elim s.left [
  | inl k ↦ none_left bytes new.bytes (ap (λ (u : Unread). u.bytes) k.same)
  | inr k ↦ elim k [
    | inl k ↦ front_left bytes (framed (Some k.tag) k.payload) new.bytes k.whole
    | inr k ↦ none_left bytes new.bytes (ap (λ (u : Unread). u.bytes) k.same)
  ]
]

-- the parts that are reported
abbrev pub parts_reported : ℕ → Result (Option ClientMessage) ClientError → PgpClientParts
parts_reported frame (Ok (Some m)) = place m frame
parts_reported frame (Err (UnknownPacket code)) = record no_client_parts { number = code }
parts_reported frame r = no_client_parts

message_placed : (kind : PasswordKind) (bytes : List ℕ) (opened : Bool) (m : ClientMessage) (new : Unread) (frame : ℕ) → Step kind (record { bytes = bytes; opened = opened }) (Ok (Some m)) new → frame ≡ length bytes - length new.bytes
    → Placed bytes m frame
message_placed kind bytes opened m new frame s is =
    let whole = s.stands.whole in
    placed bytes new.bytes frame m whole (omega (arith, is, ap length whole, length-append (bytes_of m) new.bytes)) (omega (arith, is))

shows_all : (kind : PasswordKind) (bytes : List ℕ) (opened : Bool) (r : Result (Option ClientMessage) ClientError) (new : Unread) (p : PgpClientMessage) → Step kind (record { bytes = bytes; opened = opened }) r new
    → p.frame ≡ length bytes - length new.bytes → p.parts ≡ parts_reported p.frame r → ShowsAll bytes r p × ArePartsInside p.frame p.parts
shows_all kind bytes opened (Ok None) new p s is at = (at, subst (λ (q : _). ArePartsInside p.frame q) (sym at) (inside_none p.frame (pos 0)))
shows_all kind bytes opened (Ok (Some m)) new p s is at =
    let k = message_placed kind bytes opened m new p.frame s is in
    (subst (λ (q : _). Shows bytes m q) (sym at) k.0, subst (λ (q : _). ArePartsInside p.frame q) (sym at) k.1)
shows_all kind bytes opened (Err (UnknownPacket code)) new p s is at = (at, subst (λ (q : _). ArePartsInside p.frame q) (sym at) (inside_none p.frame code))
shows_all kind bytes opened (Err (Reading e)) new p s is at = (at, subst (λ (q : _). ArePartsInside p.frame q) (sym at) (inside_none p.frame (pos 0)))

-- and how many bytes are missing
abbrev pub missing_reported : Bool → List ℕ → Result (Option ClientMessage) ClientError → ℕ
missing_reported opened bytes (Ok None) = missing_from (drop (length_place opened) bytes)
missing_reported opened bytes r = 0

misses : (kind : PasswordKind) (bytes : List ℕ) (opened : Bool) (r : Result (Option ClientMessage) ClientError) (new : Unread) (missing : ℕ) → Step kind (record { bytes = bytes; opened = opened }) r new
    → missing ≡ missing_reported opened bytes r → Misses opened bytes r missing
misses kind bytes opened (Ok None) new missing s is = subst (λ n. IsMissing (length_place opened) bytes n) (sym is) (of_client opened bytes s.0)
misses kind bytes opened (Ok (Some m)) new missing s is = is
misses kind bytes opened (Err e) new missing s is = is

pub reports : (kind : PasswordKind) (bytes : List ℕ) (opened : Bool) (r : Result (Option ClientMessage) ClientError) (new : Unread) (p : PgpClientMessage) (code : ℕ) → Step kind (record { bytes = bytes; opened = opened }) r new
    → p.frame ≡ length bytes - length new.bytes → p.is_open ≡ new.opened → code ≡ code_of r → p.missing ≡ missing_reported opened bytes r → p.kind ≡ kind_reported r → p.parts ≡ parts_reported p.frame r
    → (opened ≡ true → p.frame ≢ 0 → p.frame ≤ length bytes → (rest : List ℕ) × (bytes ≡ p.tag ∷ rest)) → (p.frame ≡ 0 → p.tag ≡ 0) → (opened ≡ false → p.tag ≡ 0) → ReportsClient kind bytes opened p code
reports kind bytes opened r new p code s is opens code_is missing_is kind_is at tag none opening =
    let within : p.frame ≤ length bytes = omega (arith, is) in
    let k = shows_all kind bytes opened r new p s is at in
    let left : drop p.frame bytes ≡ new.bytes = ap (λ i. drop i bytes) is ∙ left_is kind bytes opened r new s in
    record {
      result = r;
      step = subst (λ (o : Bool). Step kind (record { bytes = bytes; opened = opened }) r (record { bytes = drop p.frame bytes; opened = o })) (sym opens)
          (subst (λ (l : List ℕ). Step kind (record { bytes = bytes; opened = opened }) r (record { bytes = l; opened = new.opened })) (sym left) s);
      within = within;
      code_is = code_is;
      missing = misses kind bytes opened r new p.missing s missing_is;
      kind_is = kind_is;
      shows = k.0;
      inside = k.1;
      tag_is = λ o some. tag o some within;
      no_tag = none;
      opening = opening;
    }
