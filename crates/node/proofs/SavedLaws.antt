-- Every state of a history from an accepted start has 16 places, so it is read back as it was written, and a history
-- goes on from what was saved as if nothing had been.
use mathlib.Core.Path.{◌≡◌, refl, ◌∙◌, ap}
use mathlib.Core.List.{List, [], ◌∷◌}
use Rattle.base.specs.Fold.{folded}
use Rattle.histories.specs.History.{Call, release, step, lend, Past, next, after}
use Rattle.scheduler.proofs.PlaceLaws.{Sized}
use Rattle.histories.proofs.HistoryLaws.{Kept, kept_next}
use Rattle.node.specs.Calls.{release_on, step_on}
use Rattle.node.specs.Saved.{Buffers, called, called_all, saved, restored}
use Rattle.node.proofs.LayoutLaws.{read_back, state_encoded}

-- WHAT IS SAVED IS RESTORED as it was.
pub restored_same : (p : Past) → Sized p.state → restored p ≡ p
restored_same p size = rw (read_back p.state size)

-- THE WORDS FOLLOW: a call on the words of a history's state leaves the words of the state after it.
called_saved : (p : Past) (call : Call) → Sized p.state → called (saved p) call ≡ saved (next p call)
unfolding next release_on step_on
called_saved p (release task demand) size = rw (state_encoded p.state, read_back p.state size)
called_saved p step size = rw (state_encoded p.state, read_back p.state size)
called_saved p (lend t) size = rw (state_encoded p.state, read_back p.state size)

pub calls_saved : (p : Past) (calls : List Call) → Kept p → called_all (saved p) calls ≡ saved (after p calls)
unfolding folded
calls_saved p [] K = refl
calls_saved p (call ∷ calls) K =
    ap (λ (m : Buffers). called_all m calls) (called_saved p call K.sized) ∙ calls_saved (next p call) calls (kept_next p call K)
