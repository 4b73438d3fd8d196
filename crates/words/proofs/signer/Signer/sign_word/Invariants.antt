-- `sign_word` meets its contract: what the word has set so far and the triplets ahead are the word's, and the text's signature has grown by
-- what the word has set.
-- Assumes nothing.
use Prim.Native.Nat.{◌<◌}
use mathlib.Core.Path.{◌≡◌}
use lib.Bits.{bit_or}
use Rattle.std.specs.Slice.Iter.{windows_rest, windows_size}
use Rattle.std.specs.Slice.ArrayWindows.{array_windows_parts}
use Rattle.words.proofs.Signing.{WordSigns}
use Rattle.words.proofs.signer.Signer.sign_word.Given as goal

abbrev pub invariant-loop-a : goal.invariant-loop-a
invariant-loop-a g l =
    record {
      three : windows_size (array_windows_parts l.a-iterator) ≡ 3;
      word : WordSigns l.self.width l.self.k l.bytes (windows_rest (array_windows_parts l.a-iterator)) (g.D.Draft.own l.draft) l.count;
      few : l.count < l.self.k;
      signed : g.D.Draft.signed l.draft ≡ bit_or (g.D.Draft.signed l.fn.draft) (g.D.Draft.own l.draft);
    }
