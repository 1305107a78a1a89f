-- After the header stand the lines of the tasks passed.
use mathlib.Core.Path.{◌≡◌}
use Rattle.admission.specs.Verdicts.{admit_of}
use Rattle.texts.specs.Listing.{lines_of}
use Rattle.texts.specs.Pages.{shown}
use Rattle.texts.proofs.listing.Given as goal

abbrev pub invariant-loop-i : goal.invariant-loop-i
invariant-loop-i l = l.page ≡ shown l.initial.page (lines_of l.table (admit_of l.table) l.i)
