-- The search over the range finds what the definition's search does.
use Rattle.std.proofs.Common.{◌-◌, ◌≡◌, true, false, arith, rules}
use Rattle.std.proofs.lemmas.Iterator.{first_from_Range}
use Rattle.base.proofs.FirstLaws.{found_is}
use Rattle.table.specs.Bytes.{record_at}
use Rattle.table.specs.Sound.{falling}
use Rattle.table.proofs.first_falling.Goals as goal

pub returns : goal.returns
returns c =
    let test = falling (record_at c.args.table.now) in
    found_is test (c.args.count - 2) 2 c.args.count c.find.result (omega arith)
    (first_from_Range _ _ _ _ (λ i. test i ≡ true) (λ i. test i ≡ false) c.find.ensures.ran
    (λ x q k. search rules)
    (λ x q k. (search rules, search rules)))
