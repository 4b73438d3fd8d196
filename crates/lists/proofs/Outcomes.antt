-- One request has one outcome: from the same tables, sound or never cleared, and lent the same slices, two runs of it leave the same
-- tables, marks and list, and report the same.
-- Assumes nothing.
use Prim.Native.Nat.{ℕ}
use native.Mathlib.Decide.{ℕ_discrete}
use native.Mathlib.Omega.{arith}
use mathlib.Core.Path.{◌≡◌, refl, sym, ◌∙◌, ap, subst}
use mathlib.Core.Logic.{⊎_elim}
use mathlib.Core.List.{List}
use Rattle.model.specs.Tree.{Tree}
use Rattle.model.specs.Sound.{SoundLent}
use Rattle.model.specs.Questions.{asks_tables, Work, Call, clear, file, withdraw, rebuild, search, audit, refusal, Reading, refused, carries}
use Rattle.model.specs.Ledger.{Ledger, Report}
use Rattle.model.specs.Lists.{Memory, Gives, GivesReading, Slice, own, another, lent_slice, MayLend}
use Rattle.model.specs.Claim.{Begins, sound, zeros}
use Rattle.lists.specs.Moves.{refusal_in}
use Rattle.lists.proofs.Readings.{is_clear}
use Rattle.lists.proofs.Given.{refused_gives}
use Rattle.lists.proofs.Zeros.{zero_clears}
use Rattle.lists.proofs.Carried.{lending, step}

-- two outcomes of a call: the same tables, marks and list
pub record Same (M N : Memory) : Type 0 where
  pub signatures : M.signatures ≡ N.signatures
  pub links : M.links ≡ N.links
  pub marks : M.work.marks ≡ N.work.marks
  pub output : M.work.output ≡ N.work.output

same_by : (M N : Memory) → M ≡ N → Same M N
same_by M N e = record {
  signatures = ap (λ (x : Memory). x.signatures) e;
  links = ap (λ (x : Memory). x.links) e;
  marks = ap (λ (x : Memory). x.work.marks) e;
  output = ap (λ (x : Memory). x.work.output) e;
}

works_same : (M N K : Memory) → M.signatures ≡ N.signatures → M.links ≡ N.links → M.work ≡ K.work → N.work ≡ K.work → Same M N
works_same M N K a b x y = record { signatures = a; links = b; marks = ap (λ (w : Work). w.marks) (x ∙ sym y); output = ap (λ (w : Work). w.output) (x ∙ sym y) }

-- a clear that is not refused leaves the same tables whatever they were
clear_same : (F : ℕ) (M : Memory) (o : Report) (M' : Memory) (p : Report) (N' : Memory) → Gives (clear F) M o M' → Gives (clear F) M p N' → refusal_in M (clear F) ≡ 0 → Same M' N'
clear_same F M o M' p N' g h e =
    let x = g.0.done e in
    let y = h.0.done e in
    works_same M' N' M (x.1 ∙ sym y.1) (x.2 ∙ sym y.2) g.1.work h.1.work

-- and so does every call on sound tables
call_same : (c : Call) (M : Memory) (o : Report) (M' : Memory) (p : Report) (N' : Memory) → Gives c M o M' → Gives c M p N' → refusal_in M c ≡ 0 → SoundLent M.signatures M.links
    → Same M' N'
call_same (clear F) M o M' p N' g h e S = clear_same F M o M' p N' g h e
call_same (file b s) M o M' p N' g h e S =
    let x = g.0.done e S in
    let y = h.0.done e S in
    works_same M' N' M (x.1 ∙ sym y.1) (x.2 ∙ sym y.2) g.1.work h.1.work
call_same (withdraw b) M o M' p N' g h e S =
    let x = g.0.done e S in
    let y = h.0.done e S in
    works_same M' N' M (x.1 ∙ sym y.1) (x.2 ∙ sym y.2) g.1.work h.1.work
call_same rebuild M o M' p N' g h e S =
    ⊎_elim (λ x. ⊎_elim (λ y. record {
      signatures = g.1.signatures ∙ sym h.1.signatures;
      links = x.made ∙ sym y.made;
      marks = g.1.marks ∙ sym h.1.marks;
      output = g.1.output ∙ sym h.1.output;
    }) (λ y. absurd (y.0 S)) (h.0.asked e)) (λ x. absurd (x.0 S)) (g.0.asked e)
call_same (search q) M o M' p N' g h e S =
    let x = g.0.done e S in
    let y = h.0.done e S in
    record { signatures = g.1.signatures ∙ sym h.1.signatures; links = g.1.links ∙ sym h.1.links; marks = x.1 ∙ sym y.1; output = x.2 ∙ sym y.2 }
call_same audit M o M' p N' g h e S = same_by M' N' (g.2 ∙ sym h.2)

-- a call that is no clear, not refused: on the index's own slice, and not before a first clear
other_same : (words links : List ℕ) (L : Ledger) (t : Tree) (c : Call) → is_clear c ≡ 0 → (W : Work) (o : Report) (M' : Memory) (p : Report) (N' : Memory) → Begins words links L t → (s : Slice)
    → MayLend s (carries c) → Gives c (lending (lent_slice words s) links W) o M' → Gives c (lending (lent_slice words s) links W) p N'
    → refusal_in (lending (lent_slice words s) links W) c ≡ 0 → Same M' N'
other_same words links L t c i W o M' p N' b (another ws) m g h e = absurd (omega (arith, ap is_clear m.1))
other_same words links L t c i W o M' p N' (sound S) own m g h e = call_same c (lending words links W) o M' p N' g h e S
other_same words links L t c i W o M' p N' (zeros B x y f) own m g h e =
    let z : is_clear c ≡ 1 = zero_clears words B x y W c (subst (λ (l : List ℕ). refusal (asks_tables words l) W c ≡ 0) f e) in
    absurd (omega arith)

-- one request, twice from the same beginning, lent the same slice
module _ (words links : List ℕ) (L : Ledger) (t : Tree) (b : Begins words links L t) (s : Slice) (W : Work) (o : Report) (M' : Memory) (p : Report) (N' : Memory) where
  abbrev M : Memory
  M = lending (lent_slice words s) links W

  pub same_report : (r : Reading) → MayLend s r → GivesReading r (lending (lent_slice words s) links W) o M' → GivesReading r (lending (lent_slice words s) links W) p N' → o ≡ p
  same_report (refused n) m g h = g.0 ∙ sym h.0
  same_report (carries c) m g h =
      (step words links L t b s W o M' (carries c) m (omega arith) g).0.report ∙ sym (step words links L t b s W p N' (carries c) m (omega arith) h).0.report

  accepted_same : (c : Call) → MayLend s (carries c) → Gives c M o M' → Gives c M p N' → refusal_in M c ≡ 0 → Same M' N'
  accepted_same (clear F) m g h e = clear_same F M o M' p N' g h e
  accepted_same (file k v) m g h e = other_same words links L t (file k v) refl W o M' p N' b s m g h e
  accepted_same (withdraw k) m g h e = other_same words links L t (withdraw k) refl W o M' p N' b s m g h e
  accepted_same rebuild m g h e = other_same words links L t rebuild refl W o M' p N' b s m g h e
  accepted_same (search q) m g h e = other_same words links L t (search q) refl W o M' p N' b s m g h e
  accepted_same audit m g h e = other_same words links L t audit refl W o M' p N' b s m g h e

  pub same_tables : (r : Reading) → MayLend s r → GivesReading r (lending (lent_slice words s) links W) o M' → GivesReading r (lending (lent_slice words s) links W) p N' → Same M' N'
  same_tables (refused n) m g h = same_by M' N' (g.1 ∙ sym h.1)
  same_tables (carries c) m g h = go (ℕ_discrete (refusal_in M c) 0)
    where
      go : Dec (refusal_in M c ≡ 0) → Same M' N'
      go (no n) = same_by M' N' ((refused_gives c M o M' g n).1 ∙ sym (refused_gives c M p N' h n).1)
      go (yes e) = accepted_same c m g h e
