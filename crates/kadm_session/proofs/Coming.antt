-- How lines come as what they ask for.
use Rattle.std.proofs.Common.{◌≡◌, ◌≢◌, ℕ, ◌++◌, List, [], ◌∷◌, inl, inr, refl, ap, sym, ◌∙◌, subst, Bool}
use Rattle.std.specs.Prelude.{Option, Some, None, map}
use Rattle.std.proofs.lemmas.Bool.Decides.{eqb_tells}
use Rattle.kdb_base.specs.declared.outcomes.Refusal.TheVariants.{LineTooLong}
use Rattle.kadm_lines.specs.Lines.{Seen}
use Rattle.kadm_lines.specs.Reader.{Advances, before_lines, NothingComes}
use Rattle.kadm_lines.specs.declared.readers.NextLine.{NextLine}
use Rattle.kadm_lines.specs.declared.readers.NextLine.TheVariants as line
use Rattle.kadm_session.specs.declared.intake.Asked.{Asked}
use Rattle.kadm_session.specs.declared.intake.Asked.TheVariants as asks
use Rattle.kadm_session.specs.Input.{asked_in, commands_in, without_return}
use Rattle.kadm_session.specs.Intake.{NoCommand, before_commands}

-- ---- carriage returns

return_off : (front : List ℕ) → without_return (front ++ 13 ∷ []) ≡ front
unfolding without_return
return_off [] = refl
return_off (b ∷ []) = refl
return_off (b ∷ c ∷ front) = ap (λ (rest : List ℕ). b ∷ rest) (return_off (c ∷ front))

pub return_stripped : (text front : List ℕ) → text ≡ front ++ 13 ∷ [] → front ≡ without_return text
return_stripped text front is = sym (ap without_return is ∙ return_off front)

pub no_return : (text : List ℕ) → ((front : List ℕ) → text ≢ front ++ 13 ∷ []) → text ≡ without_return text
unfolding without_return
no_return [] other = refl
no_return (b ∷ []) other =
    elim (eqb_tells b 13) [
      | inl same ↦ absurd (other [] (ap (λ (c : ℕ). c ∷ []) same.1))
      | inr apart ↦ rw apart.0 refl
    ]
no_return (b ∷ c ∷ text) other = ap (λ (rest : List ℕ). b ∷ rest)
    (no_return (c ∷ text) (λ front e. other (b ∷ front) (ap (λ (rest : List ℕ). b ∷ rest) e)))

-- ---- lines

came : (realm : List ℕ) (first : Seen) (old new : Option (List Seen)) (asked : Asked) → old ≡ before_lines first new
    → asked ≡ asked_in realm first
    → commands_in realm old ≡ before_commands asked (commands_in realm new)
came realm first old None asked e is = ap (commands_in realm) e
came realm first old (Some lines) asked e is =
    ap (commands_in realm) e ∙ ap (λ (a : Asked). Some (a ∷ map (asked_in realm) lines)) (sym is)

-- a line whose text was given
pub came_line : (realm : List ℕ) (next : NextLine) (ended : Bool) (text : List ℕ) (old new : Option (List Seen))
    (asked : Asked)
    → next ≡ line.Line ended → Advances next text old new
    → asked ≡ asked_in realm (record { text = Some text; ended = ended })
    → commands_in realm old ≡ before_commands asked (commands_in realm new)
came_line realm next ended text old new asked is advances =
    came realm (record { text = Some text; ended = ended }) old new asked
    (subst (λ (n : NextLine). Advances n text old new) is advances)

-- a line that was too long
pub came_long : (realm : List ℕ) (next : NextLine) (ended : Bool) (text : List ℕ) (old new : Option (List Seen))
    → next ≡ line.TooLong ended → Advances next text old new
    → commands_in realm old ≡ before_commands (asks.Refused LineTooLong) (commands_in realm new)
unfolding asked_in
came_long realm next ended text old new is advances =
    came realm (record { text = None; ended = ended }) old new (asks.Refused LineTooLong)
    (subst (λ (n : NextLine). Advances n text old new) is advances) refl

-- the end
pub came_end : (realm : List ℕ) (next : NextLine) (text : List ℕ) (old new : Option (List Seen)) → next ≡ line.End
    → Advances next text old new → NoCommand (commands_in realm old)
came_end realm next text old new is advances =
    none old (subst (λ (n : NextLine). Advances n text old new) is advances).0
  where
    none : (lines : Option (List Seen)) → NothingComes lines → NoCommand (commands_in realm lines)
    none None h = tt
    none (Some lines) h = ap (map (asked_in realm)) h
