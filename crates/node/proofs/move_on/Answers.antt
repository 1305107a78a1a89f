-- The clock, and in a run the words of the task that ran, one of 1 to 16.
use Rattle.std.proofs.Common.{◌≡◌, ◌≤◌, ◌-◌, ℕ, List, true, arith, sym, ◌∙◌}
use Rattle.decisions.specs.declared.Tick.TheVariants.{Run}
use Rattle.scheduler.specs.Steps.{tick_of}
use Rattle.scheduler.proofs.TickLaws.{run_is_task}
use Rattle.node.specs.Layout.{state_in}
use Rattle.node.specs.Calls.{words_fit}
use Rattle.node.proofs.CallLaws.{fit_says}
use Rattle.node.proofs.LayoutLaws.{run_put}
use Rattle.node.proofs.move_on.Goals as goal

one_of_16 : (words : List ℕ) (task : ℕ) → words_fit words ≡ true → Run task ≡ tick_of (state_in words) → (1 ≤ task) × (task ≤ 16)
one_of_16 words task f e = omega (arith, run_is_task (state_in words) task e, (fit_says words f).1.few)

pub work-requires : goal.work-requires
work-requires c = omega (arith, one_of_16 c.args.state.now c.in-Run.task c.requires.0 (sym c.in-Run.is ∙ c.requires.2))

pub returns-in-Run : goal.returns-in-Run
returns-in-Run c =
    let words = c.args.state.now in
    let t = one_of_16 words c.in-Run.task c.requires.0 (sym c.in-Run.is ∙ c.requires.2) in
    rw c.in-Run.is (c.work.ensures ∙ run_put words (c.in-Run.task - 1) (fit_says words c.requires.0).0 (omega (arith, t)))
