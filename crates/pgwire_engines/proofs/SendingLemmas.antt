-- The lines of a script, sent one after another.
use Rattle.pgwire_engines.proofs.Common.{◌≡◌, ◌≢◌, ℕ, Bool, true, List, [], ◌∷◌, ◌++◌, None, refl, sym, ap, subst, ◌∙◌, inl, inr, not, if◌then◌else◌, AllByRecursion, slice_split, All-from_recursion, IsUtf8, ClientMessage, Startup, SslRequest, Sync, Terminate, Query, PasswordMessage, IsNamed, MayCome, kinds_of, is_startup, Sent, opened_more, Ask, ArePairs, Says, is_space, is_opening, SendsLine, HasSent}
use Rattle.pgp_base.specs.Held.{Held}

-- an empty line more
ask_empty : (lines : List (List ℕ)) (messages : List ClientMessage) → Ask lines messages → Ask (lines ++ [] ∷ []) messages
ask_empty [] messages a = a
ask_empty ([] ∷ lines) messages a = ask_empty lines messages a
ask_empty ((b ∷ t) ∷ lines) messages (m, more, is, utf8, says, rest) = (m, more, is, utf8, says, ask_empty lines more rest)

-- a line more that asks for a message
ask_more : (lines : List (List ℕ)) (text : List ℕ) (messages : List ClientMessage) (m : ClientMessage) → Ask lines messages → text ≢ [] → IsUtf8 text → Says text m → Ask (lines ++ text ∷ []) (messages ++ m ∷ [])
ask_more [] [] messages m a some utf8 says = absurd (some refl)
ask_more [] (b ∷ t) messages m a some utf8 says = (m, [], ap (λ l. l ++ m ∷ []) a, utf8, says, refl)
ask_more ([] ∷ lines) text messages m a some utf8 says = ask_more lines text messages m a some utf8 says
ask_more ((b ∷ t) ∷ lines) text messages m (n, more, is, u, s, rest) some utf8 says = (n, more ++ m ∷ [], ap (λ l. l ++ m ∷ []) is, u, s, ask_more lines text more m rest some utf8 says)

module _ {B K : Type 0} (held : B → Held K) where
  pub sent_more : (lines : List (List ℕ)) (text : List ℕ) (old new : Sent B) → HasSent lines (held old.buf).bytes old.opened → SendsLine held text old new None → HasSent (lines ++ text ∷ []) (held new.buf).bytes new.opened
  sent_more lines text old new sent (inl (empty, same)) = record {
    messages = sent.messages;
    sends = record {
      asked = subst (λ t. Ask (lines ++ t ∷ []) sent.messages) (sym empty) (ask_empty lines sent.messages sent.sends.asked);
      kinds = sent.sends.kinds;
      run = rw same sent.sends.run;
    };
    opens = rw same sent.opens;
  }
  sent_more lines text old new sent (inr one) = record {
    messages = sent.messages ++ one.message ∷ [];
    sends = record {
      asked = ask_more lines text sent.messages one.message sent.sends.asked one.some one.utf8 one.says;
      kinds = sent.sends.kinds ++ kinds_of one.message;
      run = one.added.reads sent.sends.kinds sent.messages sent.sends.run;
    };
    opens = one.added.opened ∙ ap (λ (o : Bool). if is_startup one.message then true else o) sent.opens ∙ sym (opened_more sent.messages one.message);
  }

-- ---- the phase of a line's message

pairs_named : (parts : List (List ℕ)) (ps : List (List ℕ × List ℕ)) → ArePairs parts ps → AllByRecursion (λ p. p.0 ≢ []) ps
pairs_named [] ps a = subst (AllByRecursion (λ p. p.0 ≢ [])) (sym a) tt
pairs_named ([] ∷ parts) ps a = pairs_named parts ps a
pairs_named ((b ∷ x) ∷ parts) ps (p, more, is, one, rest) = subst (AllByRecursion (λ p. p.0 ≢ [])) (sym is) (one.some, pairs_named parts more rest)

pub names_it : (text : List ℕ) (m : ClientMessage) → Says text m → IsNamed m
names_it text (Startup v ps) says = All-from_recursion (λ p. p.0 ≢ []) ps (pairs_named (slice_split is_space says.2) ps says.4)
names_it text SslRequest says = tt
names_it text Sync says = tt
names_it text Terminate says = tt
names_it text (Query z) says = tt
names_it text (PasswordMessage z) says = tt
names_it text _ says = absurd says

pub comes_now : (text : List ℕ) (m : ClientMessage) (o : Bool) → Says text m → o ≡ not (is_opening m) → MayCome m o
comes_now text (Startup v ps) o says e = subst (MayCome (Startup v ps)) (sym e) (inl tt, names_it text (Startup v ps) says)
comes_now text SslRequest o says e = subst (MayCome SslRequest) (sym e) (inr tt, tt)
comes_now text Sync o says e = subst (MayCome Sync) (sym e) (λ none. cc)
comes_now text Terminate o says e = subst (MayCome Terminate) (sym e) (λ none. cc)
comes_now text (Query z) o says e = subst (MayCome (Query z)) (sym e) (λ none. cc)
comes_now text (PasswordMessage z) o says e = subst (MayCome (PasswordMessage z)) (sym e) (λ none. cc)
comes_now text _ o says e = absurd says
