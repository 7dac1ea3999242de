-- The transactions of a snapshot.
use Rattle.for_c.proofs.Common.{◌≡◌, ℕ, ◌+◌, List, ◌++◌, length, Ok, sym, ap, subst, ◌∙◌, arith, length-append, hint_of, length-uint32, Begins, SnapshotReads, WalkedSnapshot, snapshot_head, xid_part, rest_of}
use Rattle.for_c.proofs.PointLists.{length-uint64}
use Rattle.for_c.proofs.Walks.{rest_after}

pub xid_long : (rest more : List ℕ) (n : ℕ) → Begins xid_part rest n more → length rest ≡ 8 + length more
xid_long rest more n b = omega (arith, ap length b.whole, length-append b.front more, ap length b.spelled.1, length-uint64 n)

-- the transactions that are announced stand after their number and the two bounds
pub begins_snapshot : (bytes : List ℕ) (n xmin xmax end : ℕ) (w : WalkedSnapshot) → SnapshotReads bytes (Ok w) → xmin ≡ w.xmin → xmax ≡ w.xmax → n ≡ (hint_of w.running.announced).0 → end ≡ length bytes
    → Begins snapshot_head bytes (n, (xmin, xmax)) (rest_of bytes 20 end)
begins_snapshot bytes n xmin xmax end w (m, rest, b, walk) low high hint last =
    let reported : n ≡ m = hint ∙ ap (λ a. (hint_of a).0) walk.announced in
    let s = b.spelled in
    let t = s.other in
    let size : length b.front ≡ 20 =
    omega (arith, ap length s.whole, length-append s.first s.second, ap length s.one.1, length-uint32 m, ap length t.whole, length-append t.first t.second, ap length t.one.1, length-uint64 w.xmin, ap length t.other.1, length-uint64 w.xmax) in
    let left : rest_of bytes 20 end ≡ rest = rest_after b.front rest bytes 20 end b.whole size last in
    subst (λ k. Begins snapshot_head bytes (k, (xmin, xmax)) (rest_of bytes 20 end)) (sym reported)
    (subst (λ l. Begins snapshot_head bytes (m, (l, xmax)) (rest_of bytes 20 end)) (sym low)
    (subst (λ h. Begins snapshot_head bytes (m, (w.xmin, h)) (rest_of bytes 20 end)) (sym high) (record { front = b.front; whole = b.whole ∙ ap (λ l. b.front ++ l) (sym left); spelled = b.spelled })))
