-- Bit by bit in one, the words so far are 0 where each of them is.
use Rattle.std.proofs.Common.{◌≡◌, ℕ, rules, eqb, refl, bit_or}
use Rattle.std.specs.List.{list_all}
use Rattle.std.proofs.iter.Yields.{fronts}
use Rattle.std.proofs.lemmas.Fn.{fold_over}
use Rattle.std.proofs.lemmas.Iterator.{YieldsList-from_slice}
use Rattle.node.proofs.LayoutLaws.{or_more}
use Rattle.node.proofs.blank.Goals as goal

pub returns : goal.returns
returns c =
    fold_over {B = ℕ} fronts (λ y. y.now) _ (λ ys a. eqb a 0 ≡ list_all (λ w. eqb w 0) ys) _
    (λ ys a x b f J k. (let e : b ≡ bit_or a x.now = search rules in rw e (or_more ys a x.now J), search rules))
    _ c.args.place.now 0 c.fold.result (YieldsList-from_slice c.args.place.now c.iter.ensures.rest).runs refl c.fold.ensures.ran
