-- Words are written here one after the other into a buffer.
use Rattle.std.specs.Prelude.{ℕ, ◌+◌, List, ◌++◌, length, take, drop}

-- `puts` sets the words from number k on.
abbrev pub puts : List ℕ → ℕ → List ℕ → List ℕ
puts words k ws = take k words ++ (ws ++ drop (k + length ws) words)
