-- Where the goals on a stack are.
use Rattle.std.specs.Prelude.{◌≡◌, List, [], ◌∷◌, ℕ, length, get_or}
use Rattle.definition.specs.Stack.{Stack}

-- the place of each frame's goal is the frame's index; places of goals that are on no frame mean nothing
abbrev pub Placed : Stack → List ℕ → Type 0
Placed [] places = Unit {0}
Placed (f ∷ fs) places = (get_or places f.input 0 ≡ length fs) × Placed fs places

-- in an array with a place for each goal that a book can have
pub record PlacesHeld (s : Stack) (places : List ℕ) : Type 0 where
  pub long : length places ≡ 64
  pub placed : Placed s places
