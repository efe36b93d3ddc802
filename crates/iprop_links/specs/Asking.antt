-- What a replica says on a connection, and what comes of it.
use Rattle.std.specs.Prelude.{ℕ, ◌≡◌, ◌⊎◌, List, ◌∷◌, ◌++◌, Option, Some, option_map}
use Rattle.iprop_wire.specs.Messages.{message_text}
use Rattle.iprop_wire.specs.declared.messages.Message.{Message}
use Rattle.iprop_wire.specs.declared.messages.Message.TheVariants.{Hello}
use Rattle.kdb_ports.specs.Links.{Wire}

-- who it is, and a poll
abbrev pub greeting : List ℕ → Message → List ℕ
greeting name poll = message_text (Hello name) ++ message_text poll

-- what was sent on each connection, the newest first, where it is told
abbrev pub sent_in : Option Wire → Option (List (List ℕ))
sent_in told = option_map (λ w. w.sent) told

-- what the connections of later dials give
abbrev pub later_in : Option Wire → Option (List (List ℕ))
later_in told = option_map (λ w. w.to_come) told

-- a front of the text
pub record IsFront (text front : List ℕ) : Type 0 where
  pub rest : List ℕ
  pub parts : text ≡ front ++ rest

-- a front of the text was sent on a new connection
pub record SaidFront (text : List ℕ) (before : List (List ℕ)) (now : Option (List (List ℕ))) : Type 0 where
  pub front : List ℕ
  pub is_front : IsFront text front
  pub is : now ≡ Some (front ∷ before)

-- or none was made
abbrev pub MaySay : List ℕ → List (List ℕ) → Option (List (List ℕ)) → Type 0
MaySay text before now = (now ≡ Some before) ⊎ SaidFront text before now
