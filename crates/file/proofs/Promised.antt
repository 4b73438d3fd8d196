-- The promise of file, by what its code finds: question 4's no, no plan, or a plan carried out.
-- Assumes nothing.
use Prim.Native.Nat.{ℕ, ◌+◌, ◌*◌, ◌≤◌}
use mathlib.Core.Path.{◌≡◌, refl, sym, ◌∙◌, ap, ap₂, subst}
use mathlib.Core.Logic.{inl, inr, ◌≢◌}
use mathlib.Core.Bool.{Bool, true, false, ◌&&◌}
use mathlib.Core.List.{List}
use lib.ListN.{length}
use borrow.Author.Rules.{rules}
use Rattle.std.specs.Prelude.{Option, None, Some}
use Rattle.answers.specs.declared.refusal.Refusal.{Refusal}
use Rattle.answers.specs.Answers.{number_of}
use Rattle.model.specs.Wide.{number_in, set_words}
use Rattle.model.specs.Packed.{rows_of, unpacked, Packs}
use Rattle.model.specs.Tables.{blocks_of, signatures_of}
use Rattle.model.specs.Stores.{stores}
use Rattle.model.specs.Questions.{ask, asks_tables, tables_fit, file_refusal}
use Rattle.model.specs.Promises.{unsound, FilePromise}
use Rattle.model.specs.PackedPromises.{packed_fit, PackedFile}
use Rattle.model.proofs.Asking.{true_false, both, ask_zero}
use Rattle.model.proofs.Stores.{length_stores}
use Rattle.model.proofs.Wide.{set_words_length}
use Rattle.tables.specs.declared.packed.Tables.{Tables}
use Rattle.tables.specs.declared.lent.TablesMut.{TablesMut}
use Rattle.tables.specs.Changed.{links_in, blocks_in, IsRead, Becomes, Signs}
use Rattle.tables.proofs.Stays.{changes_stay}
use Rattle.tables.proofs.Held.{spelt}
use Rattle.tables.specs.Held.{signatures_held, blocks_held, held}
use Rattle.file.specs.Asking.{Passed}
use Rattle.file.specs.Plan.{plan_stores, Plans}
use Rattle.file.specs.declared.plan.Plan.{Plan}
use Rattle.file.proofs.Asked.{passed, inside, refuses_unfit}

pub some_number : (e : Refusal) → number_of e ≢ 0
some_number e = search rules

module _ (t : TablesMut) (b : ℕ) (s : List ℕ) where
  -- question 4 and the later ones
  abbrev packs : Bool
  packs = packed_fit t.links.now t.nodes.now

  abbrev four : Bool
  four = packs && tables_fit (asks_tables t.signatures.now (links_in t))

  abbrev later : ℕ
  later = file_refusal (asks_tables t.signatures.now (links_in t)) b s

  -- nothing is stored
  abbrev Refused : ℕ → Type 0
  Refused r = PackedFile t.signatures.now t.links.now t.nodes.now b s r t.signatures.now t.links.now t.nodes.now

  refused : (r : ℕ) → r ≢ 0 → (packs ≡ false → r ≡ 4) → (packs ≡ true → r ≡ later) → Refused r
  refused r n four_is later_is = record {
    unfit = λ e. (four_is e, (refl, refl, refl));
    asked = λ e. (
      record { refused = λ _. (later_is e, refl, refl); done = λ z. absurd (n (later_is e ∙ z)); anyway = λ z. absurd (n (later_is e ∙ z)) },
      record { rows_long = refl; nodes_long = refl; untouched = λ _. (refl, refl) },
    );
  }

  -- question 4's no
  pub refused_first : (r : ℕ) → r ≢ 0 → r ≡ ask 4 four 0 → Refused r
  unfolding ask
  refused_first r n e = go packs refl (tables_fit (asks_tables t.signatures.now (links_in t))) refl
    where
      go : (p : Bool) → packs ≡ p → (f : Bool) → tables_fit (asks_tables t.signatures.now (links_in t)) ≡ f → Refused r
      go false g f h = let z : four ≡ false = rw g in refused r n (λ _. e ∙ ap (λ (x : Bool). ask 4 x 0) z) (λ y. true_false y g)
      go true g false h = let z : four ≡ false = rw (g, h) in refused r n (λ y. true_false g y) (λ _. e ∙ ap (λ (x : Bool). ask 4 x 0) z ∙ sym (refuses_unfit t.signatures.now (links_in t) b s h))
      go true g true h = let z : four ≡ true = rw (g, h) in absurd (n (e ∙ ap (λ (x : Bool). ask 4 x 0) z))

  -- question 4 passes the tables, which are read
  module _ (yes : 0 ≡ ask 4 four 0) (r : Tables) (is : IsRead t r) where
    -- what is said of the tables read is said of those lent
    on : (P : List ℕ → List ℕ → Type 0) → P r.rows.signatures.now (held r) → P t.signatures.now (links_in t)
    on P x = subst (λ (l : List ℕ). P t.signatures.now l) (ap₂ unpacked is.1 is.2) (subst (λ (l : List ℕ). P l (held r)) is.0 x)

    fit : packs ≡ true
    fit = (both {t = packs} (ask_zero 3 four 0 (sym yes)).0).0

    packs_in : Packs (blocks_in t) t.links.now t.nodes.now
    packs_in = record { rows_long = rw (is.1, is.2) at (r.fits.packs.rows_long ∙ ap rows_of (sym r.fits.packs.nodes_long)); nodes_long = refl }

    -- no later question refuses
    module _ (none : 0 ≡ file_refusal (asks_tables r.rows.signatures.now (held r)) b s) (of_read : Passed (blocks_held r) (held r) b s) where
      asked : later ≡ 0
      asked = sym (on (λ (x y : List ℕ). 0 ≡ file_refusal (asks_tables x y) b s) none)

      of_lent : Passed (blocks_of (links_in t)) (links_in t) b s
      of_lent = passed t.signatures.now (links_in t) b s asked

      -- the blocks of the numbers, and of the slices
      count : length (signatures_of t.signatures.now (links_in t)) ≡ blocks_in t
      count = on (λ (x y : List ℕ). length (signatures_of x y) ≡ length t.nodes.now + 1) (ap length (sym (spelt r)) ∙ sym r.fits.packs.nodes_long ∙ ap (λ (l : List ℕ). length l + 1) is.2)

      room : b * length s ≤ length t.signatures.now
      room = rw is.0 at (inside r b s of_read)

      module _ (p : Option Plan) (right : Plans (signatures_held r) (held r) b (number_in s) p) where
        plans : Plans (signatures_of t.signatures.now (links_in t)) (links_in t) b (number_in s) p
        plans = on (λ (x y : List ℕ). Plans (signatures_of x y) y b (number_in s) p) (rw (spelt r) at right)

        -- there is no plan
        pub eleven : p ≡ None → Refused unsound
        eleven e = record {
          unfit = λ f. true_false fit f;
          asked = λ _. (
            record { refused = λ n. absurd (n asked); done = λ _ S. true_false (none_plans S.sound of_lent.unfiled).0 refl; anyway = λ _. inr (refl, refl, refl) },
            record { rows_long = refl; nodes_long = refl; untouched = λ _. (refl, refl) },
          );
        }
          where
            none_plans : Plans (signatures_of t.signatures.now (links_in t)) (links_in t) b (number_in s) None
            none_plans = rw e at plans

        -- a plan is carried out, and the signature stored
        module _ (o : Plan) (e : p ≡ Some o) (t' : TablesMut) (C : Becomes t t' (stores (links_in t) (plan_stores (blocks_in t) (links_in t) b (Some o))))
            (t″ : TablesMut) (D : Signs t' t″ (set_words (length s) t'.signatures.now b s)) where
          carried : Plans (signatures_of t.signatures.now (links_in t)) (links_in t) b (number_in s) (Some o)
          carried = rw e at plans

          promise : FilePromise t.signatures.now (links_in t) b s 0 (set_words (length s) t.signatures.now b s) (links_in t')
          promise = record {
            refused = λ n. absurd (n asked);
            done = λ _ S. (
              refl,
              ap (λ (W : ℕ). set_words W t.signatures.now b s) of_lent.long,
              C.words ∙ ap (λ (B : ℕ). stores (links_in t) (plan_stores B (links_in t) b (Some o))) (sym count) ∙ (carried S.sound of_lent.unfiled).1,
            );
            anyway = λ _. inl (
              refl,
              set_words_length (length s) t.signatures.now b s refl of_lent.from room,
              ap length C.words ∙ length_stores (links_in t) (plan_stores (blocks_in t) (links_in t) b (Some o)),
            );
          }

          pub done : PackedFile t.signatures.now t.links.now t.nodes.now b s 0 t″.signatures.now t″.links.now t″.nodes.now
          done = rw (D.words, C.signatures, D.links, D.nodes) (record {
            unfit = λ f. true_false fit f;
            asked = λ _. (promise, changes_stay (blocks_in t) t.links.now t.nodes.now t'.links.now t'.nodes.now packs_in C.links_long C.nodes_long _ _ _ _ _ _ promise);
          })
