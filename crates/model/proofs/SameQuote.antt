-- Ticket 14: same store, same quote. By the claim about a list every report is the ledger's and the plain tree's; a rebuild makes the tree
-- from the set of stored signatures alone; calls that leave the tables leave the ledger and the tree. No call but rebuild and search is
-- looked at, so that calls which join the lists change nothing here.
-- Assumes nothing.
use Prim.Native.Nat.{ℕ}
use mathlib.Core.Path.{◌≡◌, refl, sym, ◌∙◌, ap, ap₂, subst}
use mathlib.Core.Bool.{Bool, true, false}
use mathlib.Core.List.{List, [], ◌∷◌, ◌++◌, append_assoc}
use lib.Dec.{eqb}
use lib.ListN.{length, take}
use lib.Seq.{take_at}
use borrow.Author.Tests.{eqb-false}
use Rattle.model.specs.Tree.{Tree, nothing, reached, nodes_read}
use Rattle.model.specs.Build.{build}
use Rattle.model.specs.Tables.{signatures_of, tree_of}
use Rattle.model.specs.Questions.{Work, Call, rebuild, search, refusal, carries}
use Rattle.model.specs.Ledger.{Ledger, stored, matching, ledger_of, asks_ledger, entered, grown, ledger_after, tree_after, Report, done_by, report_by}
use Rattle.model.specs.Promises.{output_after}
use Rattle.model.specs.Lists.{Step, words_after}
use Rattle.model.specs.Claim.{Claim, lent_with, reading_by}
use Rattle.model.specs.SameQuote.{Ran, Still, Quoted, ledger_end, words_end, ends_in, SameWidth, SameSet, SamePairs, SameCounts, listed, SameAnswers, SameQuote}
use Rattle.model.proofs.Compared.{reached_same}
use Rattle.model.proofs.Entered.{stored_same, rebuild_set}
use Rattle.model.proofs.Pairs.{pairs_set, pairs_matching}

-- the claim about a list, from this signature slice and some links
abbrev pub Claimed : Ledger → Tree → List ℕ → List Step → Type 0
Claimed L t words ss = (links : List ℕ) × Claim L t words links ss

-- the ledger and the plain tree after a step
abbrev ledger_next : Ledger → List ℕ → Step → Ledger
ledger_next L words s = ledger_after L (lent_with words s) s.lent (reading_by L words s)

abbrev tree_next : Ledger → Tree → List ℕ → Step → Tree
tree_next L t words s = tree_after L t (lent_with words s) s.lent (reading_by L words s)

-- the plain tree after a list of calls
abbrev tree_end : Ledger → Tree → List ℕ → List Step → Tree
tree_end L t words [] = t
tree_end L t words (s ∷ ss) = tree_end (ledger_next L words s) (tree_next L t words s) (words_after words s) ss

-- where its first part ends, the claim is that about the rest
claimed_rest : (L : Ledger) (t : Tree) (words : List ℕ) (ss us : List Step) → Claimed L t words (ss ++ us)
    → Claimed (ledger_end L words ss) (tree_end L t words ss) (words_end words ss) us
claimed_rest L t words [] us x = x
claimed_rest L t words (s ∷ ss) us x = claimed_rest (ledger_next L words s) (tree_next L t words s) (words_after words s) ss us (s.left.links, x.1.1)

-- where a list of two parts ends
ends_ledger : (L : Ledger) (words : List ℕ) (ss us : List Step) → ledger_end L words (ss ++ us) ≡ ledger_end (ledger_end L words ss) (words_end words ss) us
ends_ledger L words [] us = refl
ends_ledger L words (s ∷ ss) us = ends_ledger (ledger_next L words s) (words_after words s) ss us

ends_tree : (L : Ledger) (t : Tree) (words : List ℕ) (ss us : List Step)
    → tree_end L t words (ss ++ us) ≡ tree_end (ledger_end L words ss) (tree_end L t words ss) (words_end words ss) us
ends_tree L t words [] us = refl
ends_tree L t words (s ∷ ss) us = ends_tree (ledger_next L words s) (tree_next L t words s) (words_after words s) ss us

-- steps that leave the tables leave the ledger and the tree, which are the tables'
record SameEnd (L : Ledger) (t : Tree) (L' : Ledger) (t' : Tree) : Type 0 where
  ledger : L' ≡ L
  tree : t' ≡ t

still_ends : (words links : List ℕ) (L : Ledger) (t : Tree)
    → ledger_of (signatures_of words links) links ≡ L → tree_of (signatures_of words links) links ≡ t
    → (ss us : List Step) (L' : Ledger) (t' : Tree) (words' : List ℕ) → words' ≡ words → L' ≡ L → t' ≡ t → Still words links ss → Claimed L' t' words' (ss ++ us)
    → SameEnd L t (ledger_end L' words' ss) (tree_end L' t' words' ss)
still_ends words links L t e f [] us L' t' words' w l u h x = record { ledger = l; tree = u }
still_ends words links L t e f (s ∷ ss) us L' t' words' w l u h x =
    let k = x.1.0.kept in
    let a : words_after words' s ≡ words = ap (λ (ws : List ℕ). words_after ws s) w ∙ h.0 in
    let l' = sym k.ledger ∙ ap₂ (λ (ws ls : List ℕ). ledger_of (signatures_of ws ls) ls) a h.1 ∙ e in
    let u' = sym k.tree ∙ ap₂ (λ (ws ls : List ℕ). tree_of (signatures_of ws ls) ls) a h.1 ∙ f in
    still_ends words links L t e f ss us _ _ _ a l' u' h.2 (s.left.links, x.1.1)

-- what reports 0 is what no question refuses
report_zero : (L : Ledger) (t : Tree) (n : ℕ) (W : Work) (c : Call) → (report_by L t n W (carries c)).answer ≡ 0 → eqb (refusal (asks_ledger L n) W c) 0 ≡ true
report_zero L t n W c z = go (eqb (refusal (asks_ledger L n) W c) 0) refl
  where
    go : (b : Bool) → eqb (refusal (asks_ledger L n) W c) 0 ≡ b → eqb (refusal (asks_ledger L n) W c) 0 ≡ true
    go true e = e
    go false e = absurd (eqb-false (refusal (asks_ledger L n) W c) 0 e (rw (e, report_by) at z))

-- a step that is carried out: what it reports, and the ledger and the tree after it
module _ (c : Call) (s : Step) (L : Ledger) (words : List ℕ) (asks : reading_by L words s ≡ carries c) (zero : s.report.answer ≡ 0) (t : Tree) (n : ℕ) (W : Work)
    (report : s.report ≡ report_by L t n W (reading_by L words s)) where
  by_call : s.report ≡ report_by L t n W (carries c)
  by_call = report ∙ ap (report_by L t n W) asks

  passes : eqb (refusal (asks_ledger L n) W c) 0 ≡ true
  passes = report_zero L t n W c (sym (ap (λ (o : Report). o.answer) by_call) ∙ zero)

  accepted_report : s.report ≡ done_by L t c
  accepted_report = let k = passes in by_call ∙ rw (k, report_by)

  accepted_ledger : ledger_after L n W (reading_by L words s) ≡ entered L c
  accepted_ledger = let k = passes in ap (ledger_after L n W) asks ∙ rw (k, ledger_after)

  accepted_tree : tree_after L t n W (reading_by L words s) ≡ grown L t c
  accepted_tree = let k = passes in ap (tree_after L t n W) asks ∙ rw (k, tree_after)

-- the plain tree of a rebuild
abbrev rebuilt_tree : Ledger → Tree
rebuilt_tree L = build L.width (stored L)

-- what a search of a rebuilt index gives, by its ledger alone
abbrev quote : ℕ → Ledger → Report
quote q L = record {
  answer = 0;
  found = length (matching q L);
  compares = length (reached L.width q (rebuilt_tree L) (stored L));
  bits = nodes_read L.width q (rebuilt_tree L);
}

record ByLedger (q : ℕ) (L : Ledger) (s : Step) : Type 0 where
  report : s.report ≡ quote q L
  blocks : listed s ≡ matching q L

module _ (q : ℕ) (I : Quoted q) (claimed : Claimed I.ledger I.tree I.words (I.calls ++ (I.rebuilt ∷ (I.between ++ (I.searched ∷ []))))) where
  abbrev L : Ledger
  L = ends_in I

  abbrev t : Tree
  t = tree_end I.ledger I.tree I.words I.calls

  abbrev words : List ℕ
  words = words_end I.words I.calls

  abbrev r : Step
  r = I.rebuilt

  abbrev s : Step
  s = I.searched

  at_rebuild : Claimed L t words (r ∷ (I.between ++ (s ∷ [])))
  at_rebuild = claimed_rest I.ledger I.tree I.words I.calls (r ∷ (I.between ++ (s ∷ []))) claimed

  -- where the search finds them
  abbrev L' : Ledger
  L' = ledger_end I.ledger I.words (I.calls ++ (r ∷ I.between))

  abbrev t' : Tree
  t' = tree_end I.ledger I.tree I.words (I.calls ++ (r ∷ I.between))

  abbrev words' : List ℕ
  words' = words_end I.words (I.calls ++ (r ∷ I.between))

  at_search : Claimed L' t' words' (s ∷ [])
  at_search =
      claimed_rest I.ledger I.tree I.words (I.calls ++ (r ∷ I.between)) (s ∷ [])
      (subst (Claimed I.ledger I.tree I.words) (sym (append_assoc I.calls (r ∷ I.between) (s ∷ []))) claimed)

  same_end : SameEnd L (rebuilt_tree L) L' t'
  same_end =
      let x = at_rebuild.1 in
      let e : ledger_next L words r ≡ L = accepted_ledger rebuild r L words I.rebuilds.asks I.rebuilds.zero t _ _ x.0.report in
      let f : tree_next L t words r ≡ rebuilt_tree L = accepted_tree rebuild r L words I.rebuilds.asks I.rebuilds.zero t _ _ x.0.report in
      let d =
      still_ends (words_after words r) r.left.links L (rebuilt_tree L) (x.0.kept.ledger ∙ e) (x.0.kept.tree ∙ f) I.between (s ∷ []) _ _ (words_after words r) refl e f I.still
      (r.left.links, x.1) in
      record {
        ledger = ends_ledger I.ledger I.words I.calls (r ∷ I.between) ∙ d.ledger;
        tree = ends_tree I.ledger I.tree I.words I.calls (r ∷ I.between) ∙ d.tree;
      }

  by_ledger_holds : ByLedger q L s
  by_ledger_holds =
      let x = at_search.1.0 in
      let e : s.report ≡ done_by L' t' (search I.query) = accepted_report (search I.query) s L' words' I.searches.asks I.searches.zero t' _ _ x.report in
      let d : s.report ≡ quote q L =
      e ∙ ap₂ (λ (K : Ledger) (u : Tree). done_by K u (search I.query)) same_end.ledger same_end.tree ∙ ap (λ (n : ℕ). quote n L) I.asked in
      let l : s.left.work.output ≡ output_after (matching q L) s.lent.output =
      (x.searched I.query I.searches.asks I.searches.zero).listed
      ∙ ap₂ (λ (n : ℕ) (K : Ledger). output_after (matching n K) s.lent.output) I.asked same_end.ledger in
      record { report = d; blocks = ap (take s.report.found) l ∙ take_at (matching q L) _ s.report.found (sym (ap (λ (o : Report). o.found) d)) }

-- two ledgers of one width with the same set
module _ (q : ℕ) (L L' : Ledger) (w : SameWidth L L') (h : SameSet L L') where
  same_tree : rebuilt_tree L ≡ rebuilt_tree L'
  same_tree = rebuild_set L L' nothing nothing w h

  same_compares : length (reached L.width q (rebuilt_tree L) (stored L)) ≡ length (reached L'.width q (rebuilt_tree L') (stored L'))
  same_compares =
      reached_same L.width q (rebuilt_tree L) (stored L) (stored L') (stored_same L L' h)
      ∙ ap₂ (λ (F : ℕ) (t : Tree). length (reached F q t (stored L'))) w same_tree

  same_bits : nodes_read L.width q (rebuilt_tree L) ≡ nodes_read L'.width q (rebuilt_tree L')
  same_bits = ap₂ (λ (F : ℕ) (t : Tree). nodes_read F q t) w same_tree

  same_counts : (s s' : Step) → ByLedger q L s → ByLedger q L' s' → SameCounts s s'
  same_counts s s' x y = record {
    compares = ap (λ (o : Report). o.compares) x.report ∙ same_compares ∙ sym (ap (λ (o : Report). o.compares) y.report);
    bits = ap (λ (o : Report). o.bits) x.report ∙ same_bits ∙ sym (ap (λ (o : Report). o.bits) y.report);
  }

-- with the same pairs
module _ (q : ℕ) (L L' : Ledger) (w : SameWidth L L') (h : SamePairs L L') where
  same_report : quote q L ≡ quote q L'
  same_report =
      let set = pairs_set L L' h in
      ap₂ (λ (n m : ℕ). record { answer = 0; found = n; compares = m; bits = nodes_read L.width q (rebuilt_tree L) }) (ap length (pairs_matching L L' h w q)) (same_compares q L L' w set)
      ∙ ap (λ (n : ℕ). record { answer = 0; found = length (matching q L'); compares = length (reached L'.width q (rebuilt_tree L') (stored L')); bits = n }) (same_bits q L L' w set)

  same_answers : (s s' : Step) → ByLedger q L s → ByLedger q L' s' → SameAnswers s s'
  same_answers s s' x y = record { report = x.report ∙ same_report ∙ sym y.report; blocks = x.blocks ∙ pairs_matching L L' h w q ∙ sym y.blocks }

-- Ticket 14, from the claim about every list that was run.
pub quotes : ((L : Ledger) (t : Tree) (words : List ℕ) (ss : List Step) → Ran L t words ss → Claimed L t words ss) → SameQuote
quotes claim =
    let told : (q : ℕ) (I : Quoted q) → ByLedger q (ends_in I) I.searched = λ q I. by_ledger_holds q I (claim I.ledger I.tree I.words _ I.ran) in
    record {
      same_set = λ q I J w h. same_counts q (ends_in I) (ends_in J) w h I.searched J.searched (told q I) (told q J);
      same_pairs = λ q I J w h. same_answers q (ends_in I) (ends_in J) w h I.searched J.searched (told q I) (told q J);
    }
