-- A place that is blank leaves the test to the places after it.
use Rattle.std.proofs.Common.{◌≡◌, true, eqb, add-one, sym, ◌∙◌}
use Rattle.std.specs.List.{list_all}
use Rattle.node.specs.Layout.{place_of}
use Rattle.node.proofs.LayoutLaws.{spares_cut}
use Rattle.node.proofs.Words.spares_blank.Goals as goal

pub loop-i-preserved : goal.loop-i-preserved
loop-i-preserved c =
    let words = c.args.self.now.words.now in
    let blank : list_all (λ w. eqb w 0) (place_of words c.loop-i.i) ≡ true = sym (rw c.place.ensures at c.if-not-blank.ensures) in
    let cut = rw blank at (spares_cut words c.loop-i.i) in
    rw add-one (sym cut ∙ c.loop-i.invariant)
