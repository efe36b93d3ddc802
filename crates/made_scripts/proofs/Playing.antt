-- A script that is played line by line.
use Rattle.std.proofs.Common.{◌≡◌, ◌∙◌, ℕ, ◌+◌, ◌-◌, ◌<◌, ◌≤◌, Bool, true, false}
use Rattle.std.proofs.Common.{List, [], ◌∷◌, ap, arith, length, refl, suc, sym, zero}
use Rattle.std.specs.Prelude.{Option, Some, ◌||◌}
use Rattle.kadm_session.specs.Courses.{EndsAs, course, end_with, ending}
use Rattle.kadm_session.specs.Steps.{draws_after, is_refusal, reply_to, said, seen_after}
use Rattle.kadm_session.specs.declared.intake.Asked.{Asked}
use Rattle.kdb_histories.specs.Seen.{Seen, seen}
use Rattle.kdb_plain.specs.declared.states.State.{State}
use Rattle.kadm_session.specs.Opened.{HasState, Opened, place_of}
use Rattle.session_base.specs.Draws.{Draws}
use Rattle.made_scripts.specs.Plays.{IsAnswered, IsPlayed, IsUnderWay, Progress}
use Rattle.made_scripts.specs.Plays.{asked_line, counted, no_tally, played, progress}
use Rattle.made_scripts.specs.Scripts.{line_at, lines_from}
use Rattle.made_scripts.specs.declared.plays.Tally.{Tally}

-- ---- lines

-- the first of the lines from one on
pub lines_more : (seed number count : ℕ) → number < count
    → lines_from seed number (count - number)
    ≡ line_at seed number ∷ lines_from seed (number + 1) (count - (number + 1))
unfolding lines_from
lines_more seed number count lt = ap (lines_from seed number) (one_left number count lt)
  where
    one_left : (number count : ℕ) → number < count → count - number ≡ suc (count - (number + 1))
    one_left number count lt = omega (arith, lt)

pub lines_none : (seed number count : ℕ) → count ≤ number → lines_from seed number (count - number) ≡ []
unfolding lines_from
lines_none seed number count le = ap (lines_from seed number) (none_left number count le)
  where
    none_left : (number count : ℕ) → count ≤ number → count - number ≡ 0
    none_left number count le = omega (arith, le)

pub lines_all : (seed count : ℕ) → lines_from seed 0 (count - 0) ≡ lines_from seed 0 count
lines_all seed count = ap (lines_from seed 0) (omega arith)

pub lines_counted : (seed number count : ℕ) → length (lines_from seed number count) ≡ count
unfolding lines_from
lines_counted seed number zero = refl
lines_counted seed number (suc count) = ap suc (lines_counted seed (number + 1) count)

-- ---- one answer

or_none : (b : Bool) → (b || false) ≡ b
or_none true = refl
or_none false = refl

-- how a session of one command ends, where it is told what comes
pub ends_told : (taken : Option (List ℕ)) (asked : Asked) (told : Option Draws) (draws : Draws) (at : Seen)
    → told ≡ Some draws
    → ending (course taken false (Some (asked ∷ [])) told at) ≡ Some (end_with taken false (said (asked ∷ []) draws at))
unfolding ending
ends_told taken asked told draws at is =
    ap (λ (d : Option Draws). ending (course taken false (Some (asked ∷ [])) d at)) is

pub answered_so : (taken out : Option (List ℕ)) (asked : Asked) (draws : Draws) (at : Seen) (refused : Bool)
    (o : Opened) (left : Option Draws)
    → EndsAs out refused o left (end_with taken false (said (asked ∷ []) draws at))
    → IsAnswered asked draws at refused o left
unfolding said
answered_so taken out asked draws at refused o left ends = record {
  refused_is = ends.refused_is ∙ or_none (is_refusal (reply_to asked draws at));
  place_is = ends.place_is;
  shows = ends.shows;
  left_is = ends.draws_are;
}

-- ---- one line after another

pub begins : (lines rest : List (List ℕ)) (o : Opened) (s : State) (draws : Draws) (told : Option Draws) → rest ≡ lines
    → HasState o s → told ≡ Some draws
    → IsUnderWay (played lines (progress (seen (place_of o) s) draws no_tally)) rest o told no_tally
begins lines rest o s draws told is has told_is = record {
  state = s;
  draws = draws;
  shows = has;
  told_is = told_is;
  goes_on = ap (λ (ls : List (List ℕ)). played ls (progress (seen (place_of o) s) draws no_tally)) is;
}

pub goes_on : (end : Progress) (rest : List (List ℕ)) (line : List ℕ) (lines : List (List ℕ)) (o later : Opened)
    (told left : Option Draws) (refused : Bool) (tally counts : Tally)
    → rest ≡ line ∷ lines → counts ≡ counted refused tally → (way : IsUnderWay end rest o told tally)
    → IsAnswered (asked_line o.kept.realm line) way.draws (seen (place_of o) way.state) refused later left
    → IsUnderWay end lines later left counts
unfolding played
goes_on end rest line lines o later told left refused tally counts is counts_is way answered =
    let at = seen (place_of o) way.state in
    let asked = asked_line o.kept.realm line in
    let counts_so : counts ≡ counted (is_refusal (reply_to asked way.draws at)) tally =
    counts_is ∙ ap (λ (b : Bool). counted b tally) answered.refused_is in
    record {
      state = (seen_after asked way.draws at).state;
      draws = draws_after asked way.draws at;
      shows = answered.shows;
      told_is = answered.left_is;
      goes_on =
          (λ i. played lines (progress (seen (answered.place_is i) (seen_after asked way.draws at).state)
          (draws_after asked way.draws at) (counts_so i)))
          ∙ ap (λ (ls : List (List ℕ)). played ls (progress at way.draws tally)) (sym is) ∙ way.goes_on;
    }

pub ends : (end : Progress) (rest : List (List ℕ)) (o : Opened) (told : Option Draws) (tally : Tally) → rest ≡ []
    → IsUnderWay end rest o told tally → IsPlayed end o tally
unfolding played
ends end rest o told tally is way =
    let all : progress (seen (place_of o) way.state) way.draws tally ≡ end =
    ap (λ (ls : List (List ℕ)). played ls (progress (seen (place_of o) way.state) way.draws tally)) (sym is)
    ∙ way.goes_on in
    record { place_is = ap (λ (p : Progress). p.at.place) all; tally_is = ap (λ (p : Progress). p.tally) all }
