-- What is left of the text, written on the page so far, gives the whole.
use mathlib.Core.Path.{◌≡◌}
use lib.ListN.{drop}
use Rattle.texts.specs.Pages.{shown}
use Rattle.texts.proofs.Page.show.Given as goal

abbrev pub invariant-loop-byte : goal.invariant-loop-byte
invariant-loop-byte l = shown l.self (drop l.byte-index l.text) ≡ shown l.initial.self l.text
