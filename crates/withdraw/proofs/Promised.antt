-- The promise of withdraw, by what its code finds: question 4's no, or a plan carried out.
-- Assumes nothing.
use Prim.Native.Nat.{ℕ, ◌+◌, ◌*◌, ◌≤◌}
use native.Mathlib.Omega.{arith}
use mathlib.Core.Path.{◌≡◌, refl, sym, ◌∙◌, ap, ap₂, subst}
use mathlib.Core.Logic.{inl, inr, ◌≢◌}
use mathlib.Core.Bool.{Bool, true, false, ◌&&◌}
use mathlib.Core.List.{List}
use lib.ListN.{length, replicate, length-replicate}
use borrow.Author.Rules.{rules}
use Rattle.std.specs.Prelude.{Option, None, Some}
use Rattle.answers.specs.declared.refusal.Refusal.{Refusal}
use Rattle.answers.specs.Answers.{number_of}
use Rattle.model.specs.Wide.{word_count, set_words}
use Rattle.model.specs.Tables.{signatures_of, width_of}
use Rattle.model.specs.Packed.{rows_of, unpacked, Packs}
use Rattle.model.specs.Stores.{stores}
use Rattle.model.specs.Withdraw.{withdraw_links}
use Rattle.model.specs.Questions.{ask, asks_tables, tables_fit, withdraw_refusal}
use Rattle.model.specs.Promises.{unsound, WithdrawPromise}
use Rattle.model.specs.PackedPromises.{packed_fit, PackedWithdraw}
use Rattle.model.proofs.Asking.{true_false, both, ask_zero}
use Rattle.model.proofs.Stores.{length_stores}
use Rattle.model.proofs.Wide.{set_words_length}
use Rattle.tables.specs.declared.packed.Tables.{Tables}
use Rattle.tables.specs.declared.lent.TablesMut.{TablesMut}
use Rattle.tables.specs.Changed.{links_in, blocks_in, IsRead, Becomes, Signs}
use Rattle.tables.proofs.Stays.{changes_stay}
use Rattle.tables.specs.Held.{signatures_held, blocks_held, held}
use Rattle.tables.proofs.Held.{front, spelt}
use Rattle.tables.proofs.Rowed.{block_inside}
use Rattle.withdraw.specs.Asking.{Passed}
use Rattle.withdraw.specs.Plan.{plan_stores, PlansRight}
use Rattle.withdraw.specs.declared.plan.Plan.{Plan}
use Rattle.withdraw.proofs.Asked.{refuses_unfit}

pub some_number : (e : Refusal) → number_of e ≢ 0
some_number e = search rules

module _ (t : TablesMut) (b : ℕ) where
  -- question 4 and the later ones
  abbrev packs : Bool
  packs = packed_fit t.links.now t.nodes.now

  abbrev four : Bool
  four = packs && tables_fit (asks_tables t.signatures.now (links_in t))

  abbrev later : ℕ
  later = withdraw_refusal (asks_tables t.signatures.now (links_in t)) b

  -- nothing is stored
  abbrev Refused : ℕ → Type 0
  Refused r = PackedWithdraw t.signatures.now t.links.now t.nodes.now b r t.signatures.now t.links.now t.nodes.now

  refused : (r : ℕ) → r ≢ 0 → (packs ≡ false → r ≡ 4) → (packs ≡ true → r ≡ later) → Refused r
  refused r n four_is later_is = record {
    unfit = λ e. (four_is e, (refl, refl, refl));
    asked = λ e. (
      record { refused = λ _. (later_is e, refl, refl); done = λ z. absurd (n (later_is e ∙ z)); anyway = λ z. absurd (n (later_is e ∙ z)) },
      record { rows_long = refl; nodes_long = refl; untouched = λ _. (refl, refl) },
    );
  }

  -- question 4's no
  pub refused_first : (r : ℕ) → r ≢ 0 → r ≡ ask 4 four 0 → Refused r
  unfolding ask
  refused_first r n e = go packs refl (tables_fit (asks_tables t.signatures.now (links_in t))) refl
    where
      go : (p : Bool) → packs ≡ p → (f : Bool) → tables_fit (asks_tables t.signatures.now (links_in t)) ≡ f → Refused r
      go false g f h = let z : four ≡ false = rw g in refused r n (λ _. e ∙ ap (λ (x : Bool). ask 4 x 0) z) (λ y. true_false y g)
      go true g false h = let z : four ≡ false = rw (g, h) in refused r n (λ y. true_false g y) (λ _. e ∙ ap (λ (x : Bool). ask 4 x 0) z ∙ sym (refuses_unfit t.signatures.now (links_in t) b h))
      go true g true h = let z : four ≡ true = rw (g, h) in absurd (n (e ∙ ap (λ (x : Bool). ask 4 x 0) z))

  -- no question refuses the tables that are read
  module _ (yes : 0 ≡ ask 4 four 0) (r : Tables) (is : IsRead t r) (none : 0 ≡ withdraw_refusal (asks_tables r.rows.signatures.now (held r)) b) where
    -- what is said of the tables read is said of those lent
    on : (P : List ℕ → List ℕ → Type 0) → P r.rows.signatures.now (held r) → P t.signatures.now (links_in t)
    on P x = subst (λ (l : List ℕ). P t.signatures.now l) (ap₂ unpacked is.1 is.2) (subst (λ (l : List ℕ). P l (held r)) is.0 x)

    fit : packs ≡ true
    fit = (both {t = packs} (ask_zero 3 four 0 (sym yes)).0).0

    packs_in : Packs (blocks_in t) t.links.now t.nodes.now
    packs_in = record { rows_long = rw (is.1, is.2) at (r.fits.packs.rows_long ∙ ap rows_of (sym r.fits.packs.nodes_long)); nodes_long = refl }

    asked : later ≡ 0
    asked = sym (on (λ (x y : List ℕ). 0 ≡ withdraw_refusal (asks_tables x y) b) none)

    -- the blocks of the numbers, and of the slices
    count : length (signatures_of t.signatures.now (links_in t)) ≡ blocks_in t
    count = on (λ (x y : List ℕ). length (signatures_of x y) ≡ length t.nodes.now + 1) (ap length (sym (spelt r)) ∙ sym r.fits.packs.nodes_long ∙ ap (λ (l : List ℕ). length l + 1) is.2)

    each : r.rows.words ≡ word_count (width_of (links_in t))
    each = on (λ (x y : List ℕ). r.rows.words ≡ word_count (width_of y)) (r.rows.fit.each ∙ ap word_count (front r 0 (omega arith)))

    module _ (p : Option Plan) (right : PlansRight (signatures_held r) (held r) b p) where
      plans : PlansRight (signatures_of t.signatures.now (links_in t)) (links_in t) b p
      plans = on (λ (x y : List ℕ). PlansRight (signatures_of x y) y b p) (rw (spelt r) at right)

      -- there is no plan
      pub eleven : p ≡ None → Refused unsound
      eleven e = record {
        unfit = λ f. true_false fit f;
        asked = λ _. (
          record { refused = λ n. absurd (n asked); done = λ _ S. true_false (none_plans S.sound).is refl; anyway = λ _. inr (refl, refl, refl) },
          record { rows_long = refl; nodes_long = refl; untouched = λ _. (refl, refl) },
        );
      }
        where
          none_plans : PlansRight (signatures_of t.signatures.now (links_in t)) (links_in t) b None
          none_plans = rw e at plans

      -- a plan is carried out, and the signature cleared
      module _ (of_read : Passed (blocks_held r) (held r) b) (o : Plan) (e : p ≡ Some o) (t' : TablesMut) (C : Becomes t t' (stores (links_in t) (plan_stores (blocks_in t) (links_in t) b (Some o))))
          (t″ : TablesMut) (D : Signs t' t″ (set_words r.rows.words t'.signatures.now b (replicate r.rows.words 0))) where
        carried : PlansRight (signatures_of t.signatures.now (links_in t)) (links_in t) b (Some o)
        carried = rw e at plans

        room : b * r.rows.words ≤ length t.signatures.now
        room = rw is.0 at (block_inside r.rows b of_read.to)

        promise : WithdrawPromise t.signatures.now (links_in t) b 0 (set_words r.rows.words t.signatures.now b (replicate r.rows.words 0)) (links_in t')
        unfolding withdraw_links
        promise = record {
          refused = λ n. absurd (n asked);
          done = λ _ S. (
            refl,
            ap (λ (W : ℕ). set_words W t.signatures.now b (replicate W 0)) each,
            C.words ∙ ap (λ (B : ℕ). stores (links_in t) (plan_stores B (links_in t) b (Some o))) (sym count) ∙ ap (stores (links_in t)) (carried S.sound).does,
          );
          anyway = λ _. inl (
            refl,
            set_words_length r.rows.words t.signatures.now b (replicate r.rows.words 0) (length-replicate {A = ℕ} r.rows.words 0) of_read.from room,
            ap length C.words ∙ length_stores (links_in t) (plan_stores (blocks_in t) (links_in t) b (Some o)),
          );
        }

        pub done : PackedWithdraw t.signatures.now t.links.now t.nodes.now b 0 t″.signatures.now t″.links.now t″.nodes.now
        done = rw (D.words, C.signatures, D.links, D.nodes) (record {
          unfit = λ f. true_false fit f;
          asked = λ _. (promise, changes_stay (blocks_in t) t.links.now t.nodes.now t'.links.now t'.nodes.now packs_in C.links_long C.nodes_long _ _ _ _ _ _ promise);
        })
