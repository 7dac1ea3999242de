-- A client that has answered: what it sends, and what it awaits.
use Rattle.for_c_auth.proofs.Common.{◌↔◌, Contains, ◌≡◌, ℕ, List, [], true, false, ◌<◌, length, Option, Some, unwrap_or, ap, sym, ◌∙◌, IsLiteral, Delivered, Delivers, IsLonger, Start, AnswersIn, AnswersWith, FirstText, HasAnswered, NoRoom}
use Rattle.pgp_auth.specs.ScramClient.{Client, awaited_of, message_of}
use Rattle.pgp_auth.specs.Lexer.{Literal, IsPlain, backslash}
use Rattle.for_c_auth.specs.Scram.{Begins}

-- a text of this kind that is handed over
pub delivers : (Is : List ℕ → Type 0) (text old new : List ℕ) (reported : ℕ) → Is text → Delivered text old new reported → Delivers Is old new reported
delivers Is text old new reported is d = record { text = text; is = is; delivered = d }

-- a text of one kind, which is one of another
pub delivers_another : {Is As : List ℕ → Type 0} (old new : List ℕ) (reported : ℕ) → ((text : List ℕ) → Is text → As text) → Delivers Is old new reported → Delivers As old new reported
delivers_another old new reported into d = record { text = d.text; is = into d.text d.is; delivered = d.delivered }

pub longer : (Is : List ℕ → Type 0) (text old : List ℕ) → Is text → length old < length text → IsLonger Is old
longer Is text old is l = record { text = text; is = is; longer = l }

pub first_text : (s : Start) (client : Client) (text : List ℕ) → Begins s client → message_of client.state ≡ Some text → FirstText s text
first_text s client text b says = record { binding = b.binding; named = b.named; is = ap (λ (o : Option (List ℕ)). unwrap_or o []) (sym says ∙ ap (λ (c : Client). message_of c.state) b.is) }

pub answers_in : (s : Start) (first text : List ℕ) (client : Client) → HasAnswered s first client → message_of client.state ≡ Some text → AnswersIn s first text
answers_in s first text client h says = record { start = h.start; begins = h.begins; client = client; answers = h.answers; text_is = says }

pub answers_kept : (s : Start) (first text signature : List ℕ) (client : Client) → HasAnswered s first client → message_of client.state ≡ Some text → awaited_of client.state ≡ Some signature → AnswersWith s first signature text
answers_kept s first text signature client h says awaits = record { start = h.start; begins = h.begins; client = client; answers = h.answers; text_is = says; signature_is = awaits }

-- a client that has begun or answered sends a text, so that memory which takes no text is too short

pub no_room_first : (s : Start) (old : List ℕ) (client : Client) → Begins s client → ((text : List ℕ) → message_of client.state ≡ Some text → length old < length text) → IsLonger (FirstText s) old
no_room_first s old client b l =
    let says = ap (λ (c : Client). message_of c.state) b.is in
    longer (FirstText s) _ old (first_text s client _ b says) (l _ says)

pub no_room : (s : Start) (first old : List ℕ) (client : Client) (code at : ℕ) → HasAnswered s first client → ((text : List ℕ) → message_of client.state ≡ Some text → length old < length text) → code ≡ 1 → at ≡ 0 → NoRoom s first old code at
no_room s first old client code at h l c p =
    let text = h.answers.answered.final in
    let says : message_of client.state ≡ Some text = ap (λ (c : Client). message_of c.state) h.answers.new_is in
    record { longer = longer (AnswersIn s first) text old (answers_in s first text client h says) (l text says); code_is = c; place_is = p }

-- ---- string constants

pub literal_is : (z t : List ℕ) → Literal true t z → Literal false t z → IsPlain t ↔ (¬ Contains z backslash) → IsLiteral z t
literal_is z t standard not_standard form = record { standard = standard; not_standard = not_standard; form = form }
