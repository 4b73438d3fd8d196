-- Ticket 14's theorem: demand 3, in whichever form the tables are, and the laws of the ledger and the plain tree.
-- Assumes nothing.
use Prim.Native.Nat.{ℕ}
use mathlib.Core.Path.{◌≡◌, refl, ◌∙◌, ap, subst}
use mathlib.Core.Bool.{true}
use mathlib.Core.List.{List, [], ◌∷◌, ◌++◌}
use Rattle.model.specs.Wide.{number_in}
use Rattle.model.specs.Tree.{Tree}
use Rattle.model.specs.Packed.{unpacked}
use Rattle.model.specs.Questions.{rebuild, search}
use Rattle.model.specs.Ledger.{Ledger}
use Rattle.model.specs.Lists.{Step, words_after}
use Rattle.model.specs.Claim.{Begins}
use Rattle.model.specs.PackedPromises.{packed_fit}
use Rattle.model.specs.PackedLists.{PackedStep, held, held_step, held_steps, PackedRun}
use Rattle.model.specs.SameQuote.{Ran, run, packed_run, words_end, Accepted, Still, Quoted, SameQuote}
use Rattle.model.proofs.SameQuote.{Claimed, quotes}
use Rattle.lists.proofs.Demand.{demand}
use Rattle.lists.proofs.Packed.{packed_demand}

-- the claim about a list that was run
ran_claimed : (L : Ledger) (t : Tree) (words : List ℕ) (ss : List Step) → Ran L t words ss → Claimed L t words ss
ran_claimed L t words ss (run links b us r) = (links, demand words links L t b us r)
ran_claimed L t words ss (packed_run links nodes f b us r) = (unpacked links nodes, packed_demand words links nodes f L t b us r)

-- THE THEOREM: same store, same quote, with no hypothesis.
pub same_quote : SameQuote
same_quote = quotes ran_claimed

-- an index of packed tables is one that the theorem speaks of: its list in parts is the list held in parts
pub held_append : (us vs : List PackedStep) → held_steps (us ++ vs) ≡ held_steps us ++ held_steps vs
held_append [] vs = refl
held_append (u ∷ us) vs = ap (λ (ss : List Step). held_step u ∷ ss) (held_append us vs)

unfoldable pub packed_quoted : (q : ℕ) (words links nodes : List ℕ) → packed_fit links nodes ≡ true → (L : Ledger) (t : Tree) → Begins words (unpacked links nodes) L t
    → (calls : List PackedStep) (rebuilt : PackedStep) (between : List PackedStep) (searched : PackedStep)
    → PackedRun words links nodes (calls ++ (rebuilt ∷ (between ++ (searched ∷ []))))
    → Accepted rebuild L words (held_steps calls) (held_step rebuilt)
    → Still (words_after (words_end words (held_steps calls)) (held_step rebuilt)) (held rebuilt.left).links (held_steps between)
    → (query : List ℕ) → number_in query ≡ q
    → Accepted (search query) L words (held_steps calls ++ (held_step rebuilt ∷ held_steps between)) (held_step searched) → Quoted q
packed_quoted q words links nodes f L t b calls rebuilt between searched r asks still query its asks' =
    let e = held_append calls (rebuilt ∷ (between ++ (searched ∷ []))) ∙ ap (λ (ss : List Step). held_steps calls ++ (held_step rebuilt ∷ ss)) (held_append between (searched ∷ [])) in
    record {
      ledger = L;
      tree = t;
      words = words;
      calls = held_steps calls;
      rebuilt = held_step rebuilt;
      between = held_steps between;
      searched = held_step searched;
      ran = subst (Ran L t words) e (packed_run links nodes f b (calls ++ (rebuilt ∷ (between ++ (searched ∷ [])))) r);
      rebuilds = asks;
      still = still;
      query = query;
      asked = its;
      searches = asks';
    }
