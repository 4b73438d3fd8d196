-- What Rebuild does to sound tables, said of `rebuild_links`: they stay sound; their tree is made anew from the stored signatures and
-- depends on the set of these alone; width, count, rows, heads and so the ledger stay; nodes are numbered in order, and the rest are free.
-- Assumes nothing.
use Prim.Native.Nat.{ℕ, zero, suc, ◌+◌, ◌-◌, ◌≤◌, ◌<◌, max}
use native.Mathlib.Omega.{arith}
use mathlib.Core.Path.{◌≡◌, refl, sym, ◌∙◌, ap, ap₂, subst}
use mathlib.Core.List.{List, ◌∷◌}
use lib.ListN.{length}
use Rattle.model.specs.Basics.{up_from}
use Rattle.model.specs.Tree.{nothing, signatures}
use Rattle.model.specs.Build.{build}
use Rattle.model.specs.Tables.{next_at, filed_at, width_of, told_blocks, root_of, count_of, next_of, filed_of, tree_from, tree_of}
use Rattle.model.specs.Sound.{nodes_in, SoundAt, Sound}
use Rattle.model.specs.Rebuild.{heads_from, heads_of, rebuild_links}
use Rattle.model.specs.Ledger.{Entry, entries_from, ledger_of, stored}
use Rattle.model.specs.SameQuote.{SameWidth, SameSet}
use Rattle.model.proofs.Members.{Same}
use Rattle.model.proofs.Build.{build_same}
use Rattle.model.proofs.Entered.{rebuild_set as ledgers_set}
use Rattle.tables.proofs.Entries.{entry_same}
use Rattle.tables.proofs.Trees.{tree_of_sound}
use Rattle.tables.proofs.Stored.{stored_leaves}
use Rattle.tables.proofs.Unique.{tree_one, free_list_one}
use Rattle.rebuild.proofs.Laid.{laid_long, laid_width, laid_told, laid_count, laid_row}
use Rattle.rebuild.proofs.Rebuilt.{rebuilt, all_below, heads_group}

-- what stays: the length, words 0, 1 and 4, and the rows
pub record Unchanged (B : ℕ) (links after : List ℕ) : Type 0 where
  pub long : length after ≡ length links
  pub width : width_of after ≡ width_of links
  pub told : told_blocks after ≡ told_blocks links
  pub count : count_of after ≡ count_of links
  pub next : (b : ℕ) → 1 ≤ b → b ≤ B → next_of after b ≡ next_of links b
  pub filed : (b : ℕ) → 1 ≤ b → b ≤ B → filed_of after b ≡ filed_of links b

-- the entries of blocks whose filed words are the same
entries_same : (sigs L L' : List ℕ) (n b : ℕ) → ((c : ℕ) → b ≤ c → c < b + n → filed_of L' c ≡ filed_of L c) → entries_from sigs L' n b ≡ entries_from sigs L n b
unfolding entries_from
entries_same sigs L L' zero b o = refl
entries_same sigs L L' (suc n) b o =
    ap₂ ◌∷◌ (entry_same sigs L sigs L' b (o b (omega arith) (omega arith)) refl) (entries_same sigs L L' n (suc b) (λ c h h'. o c (omega arith) (omega arith)))

module _ (sigs links : List ℕ) (S : Sound sigs links) where
  abbrev after : List ℕ
  after = rebuild_links sigs links

  pub rebuild_unchanged : Unchanged (length sigs) links (rebuild_links sigs links)
  rebuild_unchanged =
      let g : List ℕ = heads_of sigs links in
      let G = heads_group sigs links S in
      let b = all_below sigs links S in
      let row = laid_row sigs links g S.fits b G.apart G.few in
      record {
        long = laid_long sigs links g S.fits b G.apart G.few ∙ sym S.fits.links_long;
        width = laid_width sigs links g S.fits b G.apart G.few;
        told = laid_told sigs links g S.fits b G.apart G.few ∙ sym S.fits.told_word;
        count = laid_count sigs links g S.fits b G.apart G.few;
        next = λ c h h'. row (next_at c) (omega arith) (omega arith);
        filed = λ c h h'. row (filed_at c) (omega arith) (omega arith);
      }

  sound_at : SoundAt (length sigs) (width_of links) sigs (rebuild_links sigs links)
  sound_at = (rebuilt sigs links S).sound

  -- sound tables stay sound
  pub rebuild_sound : Sound sigs (rebuild_links sigs links)
  rebuild_sound = subst (λ (F : ℕ). SoundAt (length sigs) F sigs (rebuild_links sigs links)) (sym rebuild_unchanged.width) sound_at

  -- the tree is made anew from its signatures
  pub rebuild_tree : tree_of sigs (rebuild_links sigs links) ≡ build (width_of links) (signatures (tree_of sigs links))
  unfolding sound_at
  rebuild_tree =
      ap (λ (F : ℕ). tree_from (length sigs) sigs after F (root_of after)) rebuild_unchanged.width ∙ tree_of_sound sound_at ∙ (rebuilt sigs links S).tree

  -- and so from the stored signatures
  pub rebuild_stored : tree_of sigs (rebuild_links sigs links) ≡ build (width_of links) (stored (ledger_of sigs links))
  rebuild_stored = rebuild_tree ∙ sym (build_same (width_of links) (stored (ledger_of sigs links)) (signatures (tree_of sigs links)) (stored_leaves sigs links S))

  -- the heads stay, in the order of the new tree
  pub rebuild_heads : Same (heads_of sigs (rebuild_links sigs links)) (heads_of sigs links)
  rebuild_heads = subst (λ (F : ℕ). Same (heads_from (length sigs) after F (root_of after)) (heads_of sigs links)) (sym rebuild_unchanged.width) (rebuilt sigs links S).heads

  -- the ledger stays
  pub rebuild_ledger : ledger_of sigs (rebuild_links sigs links) ≡ ledger_of sigs links
  rebuild_ledger =
      ap₂ (λ (F : ℕ) (es : List Entry). record { width = F; entries = es }) rebuild_unchanged.width
      (entries_same sigs links after (length sigs) 1 (λ c h h'. rebuild_unchanged.filed c h (omega arith)))

  -- whichever way the rebuilt tables are seen to be sound: the nodes, in the order a node, all of its left side, then its right, are
  -- 1 and so on; the rest are free, ascending
  module _ (T : SoundAt (length sigs) (width_of links) sigs (rebuild_links sigs links)) where
    pub rebuild_numbered : nodes_in T.tree ≡ up_from (length (heads_of sigs links) - 1) 1
    unfolding sound_at
    rebuild_numbered = ap nodes_in (tree_one T sound_at) ∙ (rebuilt sigs links S).numbered

    pub rebuild_free : T.free ≡ up_from (length sigs - max 1 (length (heads_of sigs links))) (max 1 (length (heads_of sigs links)))
    unfolding sound_at
    rebuild_free = free_list_one T sound_at ∙ (rebuilt sigs links S).free

-- two sound tables of one width with the same stored signatures are rebuilt to the same tree
pub rebuild_set : (sigs links sigs' links' : List ℕ) → Sound sigs links → Sound sigs' links' → SameWidth (ledger_of sigs links) (ledger_of sigs' links')
    → SameSet (ledger_of sigs links) (ledger_of sigs' links') → tree_of sigs (rebuild_links sigs links) ≡ tree_of sigs' (rebuild_links sigs' links')
rebuild_set sigs links sigs' links' S S' w h =
    rebuild_stored sigs links S ∙ ledgers_set (ledger_of sigs links) (ledger_of sigs' links') nothing nothing w h ∙ sym (rebuild_stored sigs' links' S')
