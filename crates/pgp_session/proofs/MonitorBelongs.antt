-- What a dialogue took belongs to the requests.
use Rattle.std.proofs.Common.{◌≡◌, List, [], ◌∷◌, ◌++◌, length, refl, sym, ap, subst, ◌∙◌, append_assoc, append-nil}
use Rattle.pgp_client.proofs.Exact.{Stops, AsksOne, Stripped, exact, one_stripped}
use Rattle.pgp_session.proofs.Common.{named, Kind, Event, Asked, Request, NoneLeft, Belong, Serves, Ready, Talk, start, Ended}
use Rattle.pgp_session.specs.Monitor.{Runs, Begins, Asks, Says, Ran, Stopped, EndsThere}
use Rattle.pgp_session.proofs.MonitorListed.{named_more}

-- what came before, in front of what comes
before : {rs : List Request} {ks : List Kind} {es : List Event} {t : Talk} → Runs rs ks es t → (more : List Asked) (all : List Kind) (reported : List Event)
    → Stripped t more all reported → Stripped start (named rs ++ more) (ks ++ all) (es ++ reported)
before Begins more all reported s = s
before (Asks {rs = rs} {ks = ks} {es = es} {t = t} r run) more all reported s =
    let a : Asked = record { request = r; name = length rs } in
    let here : Stripped t (a ∷ more) all reported = record { sent = s.sent; belong = s.belong; run = AsksOne a s.run; among = s.among } in
    let same : named rs ++ (a ∷ more) ≡ named (rs ++ r ∷ []) ++ more = sym (ap (λ (l : List Asked). l ++ more) (named_more rs r) ∙ append_assoc (named rs) (a ∷ []) more) in
    subst (λ (l : List Asked). Stripped start l (ks ++ all) (es ++ reported)) same (before run (a ∷ more) all reported here)
before (Says {rs = rs} {ks = ks} {es = es} {t = t} k e next run is live) more all reported s =
    let here : Stripped t more (k ∷ all) (e ∷ reported) = one_stripped k e t next more all reported is (λ h. absurd (live h)) s in
    let one : Stripped start (named rs ++ more) ((ks ++ k ∷ []) ++ all) (es ++ (e ∷ reported)) =
    subst (λ (l : List Kind). Stripped start (named rs ++ more) l (es ++ (e ∷ reported))) (sym (append_assoc ks (k ∷ []) all)) (before run more (k ∷ all) (e ∷ reported) here) in
    subst (λ (l : List Event). Stripped start (named rs ++ more) ((ks ++ k ∷ []) ++ all) l) (sym (append_assoc es (e ∷ []) reported)) one

nothing : (t : Talk) → Stripped t [] [] []
nothing t = record { sent = []; belong = []; run = Stops; among = NoneLeft }

whole : (rs : List Request) (ks : List Kind) (es : List Event) → Stripped start (named rs ++ []) ks es → Belong (named rs) ks es
whole rs ks es s =
    let serves : Serves (λ m. 0) Ready (named rs ++ []) s.sent s.belong = exact (λ m. 0) s.run in
    record { sent = s.sent; belong = s.belong; serves = subst (λ (y : List Asked). Serves (λ m. 0) Ready y s.sent s.belong) (append-nil (named rs)) serves; among = s.among }

pub belongs : {rs : List Request} {ks : List Kind} {es : List Event} → Ran rs ks es → Belong (named rs) ks es
belongs (Stopped {rs = rs} {ks = ks} {es = es} {t = t} run) =
    let s : Stripped start (named rs ++ []) (ks ++ []) (es ++ []) = before run [] [] [] (nothing t) in
    let kinds_so : Stripped start (named rs ++ []) ks (es ++ []) = subst (λ (l : List Kind). Stripped start (named rs ++ []) l (es ++ [])) (append-nil ks) s in
    whole rs ks es (subst (λ (l : List Event). Stripped start (named rs ++ []) ks l) (append-nil es) kinds_so)
belongs (EndsThere {rs = rs} {ks = ks} {es = es} {t = t} k next run is) =
    whole rs (ks ++ k ∷ []) (es ++ Ended ∷ []) (before run [] (k ∷ []) (Ended ∷ []) (one_stripped k Ended t next [] [] [] is (λ h. refl) (nothing next)))
