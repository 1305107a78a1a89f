-- The search over the tasks finds what the definition's search does.
use Rattle.std.proofs.Common.{ℕ, ◌≡◌, Bool, true, false, arith, rules}
use Rattle.std.proofs.lemmas.Iterator.{first_from_Range}
use Rattle.base.proofs.FirstLaws.{found_is}
use Rattle.decisions.specs.Ticks.{came}
use Rattle.decisions.proofs.first_come.Goals as goal

pub returns : goal.returns
returns g c =
    let test : ℕ → Bool = λ i. came c.args.tick (g.P.Places.entry c.args.places.now i).job in
    found_is test c.args.n 0 c.args.n c.find.result (omega arith)
    (first_from_Range _ _ _ _ (λ i. test i ≡ true) (λ i. test i ≡ false) c.find.ensures.ran
    (λ x q k. search rules)
    (λ x q k. (search rules, search rules)))
