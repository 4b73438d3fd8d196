-- What a list reports depends on its requests and on the lengths of the slices lent alone: the claim says every report by the ledger
-- and the plain tree, and these never read a lent slice.
-- Assumes nothing.
use Prim.Native.Nat.{ℕ}
use mathlib.Core.Path.{◌≡◌, refl, sym, ◌∙◌, ap, ap₂, subst}
use mathlib.Core.Bool.{Bool, true, false}
use mathlib.Core.List.{List, [], ◌∷◌}
use lib.Dec.{eqb}
use lib.ListN.{length}
use Rattle.model.specs.Tree.{Tree}
use Rattle.model.specs.Questions.{Asked, Work, Call, clear, file, withdraw, rebuild, search, audit, refusal, Reading, refused, carries}
use Rattle.model.specs.Ledger.{Ledger, asks_ledger, ledger_after, tree_after, Report, bare, done_by, report_by}
use Rattle.model.specs.Lists.{Request, reading, Slice, own, another, lent_slice, slice_after, Step, lent_to, words_after, reading_on, Run}
use Rattle.model.specs.Claim.{Claim, Begins, lent_with, reading_by}
use Rattle.lists.proofs.Lengths.{reading_length}
use Rattle.lists.proofs.Demand.{demand}
use Rattle.lists.specs.Alike.{SameLengths, SameSlice, Alike, reports}

refusal_alike : (A : Asked) (W W' : Work) → SameLengths W W' → (c : Call) → refusal A W c ≡ refusal A W' c
refusal_alike A W W' l (clear F) = refl
refusal_alike A W W' l (file b s) = refl
refusal_alike A W W' l (withdraw b) = refl
refusal_alike A W W' l rebuild = rw l.scratch
refusal_alike A W W' l (search q) = rw (l.marks, l.output)
refusal_alike A W W' l audit = refl

module _ (L : Ledger) (t : Tree) (n : ℕ) (W W' : Work) (l : SameLengths W W') where
  ledger_alike : (r : Reading) → ledger_after L n W r ≡ ledger_after L n W' r
  ledger_alike (refused m) = refl
  ledger_alike (carries c) = rw (refusal_alike (asks_ledger L n) W W' l c, ledger_after)

  tree_alike : (r : Reading) → tree_after L t n W r ≡ tree_after L t n W' r
  tree_alike (refused m) = refl
  tree_alike (carries c) = rw (refusal_alike (asks_ledger L n) W W' l c, tree_after)

  report_alike : (r : Reading) → report_by L t n W r ≡ report_by L t n W' r
  report_alike (refused m) = refl
  report_alike (carries c) = ap (λ (k : ℕ). elim (eqb k 0) [ true ↦ done_by L t c | false ↦ bare k ]) (refusal_alike (asks_ledger L n) W W' l c)

-- as many words are lent
lent_alike : (words words' : List ℕ) → length words ≡ length words' → (s u : Slice) → SameSlice s u → length (lent_slice words s) ≡ length (lent_slice words' u)
lent_alike words words' e own own a = e
lent_alike words words' e own (another vs) a = absurd a
lent_alike words words' e (another ws) own a = absurd a
lent_alike words words' e (another ws) (another vs) a = a

-- and as many are the index's afterwards, where the answers are the same
after_alike : (words words' left left' : List ℕ) (n : ℕ) → length words ≡ length words' → length left ≡ length left' → (s u : Slice) → SameSlice s u
    → length (slice_after words s n left) ≡ length (slice_after words' u n left')
after_alike words words' left left' n e f own own a = f
after_alike words words' left left' n e f own (another vs) a = absurd a
after_alike words words' left left' n e f (another ws) own a = absurd a
after_alike words words' left left' n e f (another ws) (another vs) a = go (eqb n 0) refl
  where
    go : (t : Bool) → eqb n 0 ≡ t → length (slice_after words (another ws) n left) ≡ length (slice_after words' (another vs) n left')
    go true i = rw (i, slice_after) f
    go false i = rw (i, slice_after) e

same_reports : (L : Ledger) (t : Tree) (words links words' links' : List ℕ) → length words ≡ length words' → (ss us : List Step) → Alike ss us
    → Run words links ss → Run words' links' us → Claim L t words links ss → Claim L t words' links' us → reports ss ≡ reports us
same_reports L t words links words' links' n [] [] a p q x y = refl
same_reports L t words links words' links' n [] (u ∷ us) a p q x y = absurd a
same_reports L t words links words' links' n (s ∷ ss) [] a p q x y = absurd a
same_reports L t words links words' links' n (s ∷ ss) (u ∷ us) a p q x y =
    let m : lent_with words s ≡ lent_with words' u = lent_alike words words' n s.slice u.slice a.1 in
    let e : reading_by L words s ≡ reading_by L words' u = ap₂ (λ (k : ℕ) (i : Request). reading (asks_ledger L k) i) m a.0 in
    let r : s.report ≡ u.report = x.0.report ∙ report_alike L t (lent_with words s) s.lent u.lent a.2 (reading_by L words s) ∙ ap₂ (λ (k : ℕ) (i : Reading). report_by L t k u.lent i) m e ∙ sym y.0.report in
    let l : ledger_after L (lent_with words' u) u.lent (reading_by L words' u) ≡ ledger_after L (lent_with words s) s.lent (reading_by L words s) =
    sym (ledger_alike L t (lent_with words s) s.lent u.lent a.2 (reading_by L words s) ∙ ap₂ (λ (k : ℕ) (i : Reading). ledger_after L k u.lent i) m e) in
    let f : tree_after L t (lent_with words' u) u.lent (reading_by L words' u) ≡ tree_after L t (lent_with words s) s.lent (reading_by L words s) =
    sym (tree_alike L t (lent_with words s) s.lent u.lent a.2 (reading_by L words s) ∙ ap₂ (λ (k : ℕ) (i : Reading). tree_after L t k u.lent i) m e) in
    let y' = subst (λ (v : Tree). Claim (ledger_after L (lent_with words s) s.lent (reading_by L words s)) v (words_after words' u) u.left.links us) f
    (subst (λ (M : Ledger). Claim M (tree_after L t (lent_with words' u) u.lent (reading_by L words' u)) (words_after words' u) u.left.links us) l y.1) in
    let left : length s.left.signatures ≡ length u.left.signatures =
    reading_length (reading_on words links s) (lent_to words links s) s.report s.left p.0 ∙ m
    ∙ sym (reading_length (reading_on words' links' u) (lent_to words' links' u) u.report u.left q.0) in
    let n' : length (words_after words s) ≡ length (words_after words' u) =
    after_alike words words' s.left.signatures u.left.signatures s.report.answer n left s.slice u.slice a.1
    ∙ ap (λ (o : Report). length (slice_after words' u.slice o.answer u.left.signatures)) r in
    ap₂ (λ (o : Report) (os : List Report). o ∷ os) r
    (same_reports (ledger_after L (lent_with words s) s.lent (reading_by L words s)) (tree_after L t (lent_with words s) s.lent (reading_by L words s)) (words_after words s) s.left.links (words_after words' u) u.left.links n' ss us a.3 p.2 q.2 x.1 y')

-- two runs of the same requests, from any tables that hold the same ledger and the same tree, with signature slices as long
pub same_runs : (words links words' links' : List ℕ) (L : Ledger) (t : Tree) → Begins words links L t → Begins words' links' L t → length words ≡ length words'
    → (ss us : List Step) → Alike ss us → Run words links ss → Run words' links' us → reports ss ≡ reports us
same_runs words links words' links' L t b b' n ss us a r r' =
    same_reports L t words links words' links' n ss us a r r' (demand words links L t b ss r) (demand words' links' L t b' us r')
