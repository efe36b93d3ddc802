-- The course of a session from some point on: how it ends, where it may stop early, and what a crash may leave of the
-- disk.
use Rattle.std.specs.Prelude.{ℕ, ◌≡◌, ◌≤◌, ◌+◌, ◌⊎◌, Bool, ◌||◌, List, [], ◌∷◌}
use Rattle.std.specs.Prelude.{◌++◌, Option, Some, None, drop, length, take, ⊤}
use Rattle.session_base.specs.Draws.{Draws}
use Rattle.kadm_session.specs.Dumping.{dump_lines}
use Rattle.kadm_session.specs.Events.{ArePerformed, IsPerformed, IsReached, RecoversWhere}
use Rattle.kadm_session.specs.Steps.{Said, draws_after, halfway, places_by, places_made, said, seen_after, text_to}
use Rattle.kadm_session.specs.declared.intake.Asked.{Asked}
use Rattle.kadm_session.specs.declared.intake.Asked.TheVariants.{WritesDump}
use Rattle.kdb_disk.specs.Files.{Files}
use Rattle.kdb_disk.specs.View.{View}
use Rattle.kdb_histories.specs.Seen.{Seen, seen}
use Rattle.kdb_places.specs.Places.{Place}
use Rattle.kdb_ports.specs.Parts.{SaidPart}
use Rattle.kdb_ports.specs.Told.{after_told}
use Rattle.kdb_plain.specs.declared.states.State.{State}
use Rattle.primary_core.specs.Opened.{HasState, Opened, place_of}
use Rattle.std.specs.List.{Contains}
use Rattle.session_base.specs.Stages.{Stage}
use Rattle.store_files.specs.Recovery.{RecoversTo}

-- What the sink has taken, whether a refusal was written, what still comes of the input, what the clock and the source
-- of random bytes will give, each where it is told, and the place with the state that its rows show.
pub record Course : Type 0 where
  pub taken : Option (List ℕ)
  pub refused : Bool
  pub commands : Option (List Asked)
  pub draws : Option Draws
  pub at : Seen

abbrev pub course : Option (List ℕ) → Bool → Option (List Asked) → Option Draws → Seen → Course
course taken refused commands draws at =
    record { taken = taken; refused = refused; commands = commands; draws = draws; at = at }

-- ---- how it ends where nothing fails

pub record Ending : Type 0 where
  pub out : Option (List ℕ)
  pub refused : Bool
  pub at : Seen
  pub draws : Draws

abbrev pub end_with : Option (List ℕ) → Bool → Said → Ending
end_with taken refused later = record {
  out = after_told taken later.bytes;
  refused = refused || later.refused;
  at = later.at;
  draws = later.draws;
}

abbrev pub ending_by : Option (List ℕ) → Bool → Option (List Asked) → Option Draws → Seen → Option Ending
ending_by taken refused None draws at = None
ending_by taken refused (Some commands) None at = None
ending_by taken refused (Some commands) (Some draws) at = Some (end_with taken refused (said commands draws at))

unfoldable pub ending : Course → Option Ending
ending c = ending_by c.taken c.refused c.commands c.draws c.at

-- it ended so, with this in the sink, and what is open shows the state in the end
pub record EndsAs (out : Option (List ℕ)) (refused : Bool) (o : Opened) (draws : Option Draws)
    (end : Ending) : Type 0 where
  pub out_is : out ≡ end.out
  pub refused_is : refused ≡ end.refused
  pub place_is : place_of o ≡ end.at.place
  pub shows : HasState o end.at.state
  pub draws_are : draws ≡ Some end.draws

-- ---- where it may stop early

-- Nothing of the reply was written, and a crash leaves the place before the line or one that the line makes. Or a part
-- of the reply was: the line was performed, and a crash leaves the place after it alone.
abbrev pub StopsInLine : Option (List ℕ) → Asked → Draws → Seen → Stage
StopsInLine taken asked draws at out first others =
    ((out ≡ taken) × (first ≡ at.place) × (others ≡ places_by asked draws at))
    ⊎ (IsPerformed asked draws at × SaidPart (text_to asked draws at) taken out
    × (first ≡ (seen_after asked draws at).place) × (others ≡ []))

-- at one of these commands, where those before it were performed, or after all of them
unfoldable pub MayStop : Option (List ℕ) → List Asked → Draws → Seen → Stage
MayStop taken [] draws at out first others = (out ≡ taken) × (first ≡ at.place) × (others ≡ [])
MayStop taken (asked ∷ commands) draws at out first others =
    StopsInLine taken asked draws at out first others
    ⊎ (IsPerformed asked draws at × MayStop (after_told taken (text_to asked draws at)) commands
    (draws_after asked draws at) (seen_after asked draws at) out first others)

abbrev pub stops_by : Option (List ℕ) → Option (List Asked) → Option Draws → Seen → Stage
stops_by taken None draws at out first others = ⊤
stops_by taken (Some commands) None at out first others = ⊤
stops_by taken (Some commands) (Some draws) at out first others = MayStop taken commands draws at out first others

-- the same, where the commands, the clock and the random bytes are told
unfoldable pub Stops : Course → Stage
Stops c out first others = stops_by c.taken c.commands c.draws c.at out first others

-- ---- where it rests between two lines

-- So many of the commands were done, and the replies to them are written in full. Of the next one nothing was done.
pub record AnsweredBetween (taken : Option (List ℕ)) (commands : List Asked) (draws : Draws) (at : Seen)
    (out : Option (List ℕ)) (later : Place) : Type 0 where
  pub count : ℕ
  pub within : count ≤ length commands
  pub out_is : out ≡ after_told taken (said (take count commands) draws at).bytes
  pub place_is : later ≡ (said (take count commands) draws at).at.place
  pub performed : ArePerformed (take count commands) draws at

abbrev pub rests_between_by : Option (List ℕ) → Option (List Asked) → Option Draws → Seen → Option (List ℕ)
    → Place → Type 0
rests_between_by taken None draws at out later = ⊤
rests_between_by taken (Some commands) None at out later = ⊤
rests_between_by taken (Some commands) (Some draws) at out later = AnsweredBetween taken commands draws at out later

-- the same, where the commands, the clock and the random bytes are told
unfoldable pub RestsBetween : Course → Option (List ℕ) → Place → Type 0
RestsBetween c out later = rests_between_by c.taken c.commands c.draws c.at out later

-- a session has stopped so, with this in its sink, and what a crash leaves of its disk is that place alone
pub record IsBetweenLines (c : Course) (out : Option (List ℕ)) (now : View) : Type 0 where
  pub place : Place
  pub may : RestsBetween c out place
  pub stands : RecoversTo place now

-- ---- where it stops for want of memory or of random bytes

-- what may be written of the next line, of which a part may be: nothing
unfoldable pub nothing_begun : List Asked → Place → List ℕ
nothing_begun commands p = []

-- or where it asks for a dump, which wants memory while it is written, the lines of that
unfoldable pub lines_begun : List Asked → Place → List ℕ
lines_begun (WritesDump ∷ commands) p = dump_lines p
lines_begun other p = []

-- where it may stand before the reply to the next command: as behind the one before, or where the next rekeys many,
-- behind some of these
abbrev pub rests_before : List Asked → Draws → Seen → List Place
rests_before [] draws at = at.place ∷ []
rests_before (asked ∷ commands) draws at = at.place ∷ halfway asked draws at

-- So many of the commands were done, and the replies to them are written in full. No change stands without its reply,
-- but that of the next command some rekeyings may be made. Of the next line a front of this text may be written.
pub record AnsweredWhole (begun : List Asked → Place → List ℕ) (taken : Option (List ℕ)) (commands : List Asked)
    (draws : Draws) (at : Seen) (out : Option (List ℕ)) (later : Place) : Type 0 where
  pub count : ℕ
  pub within : count ≤ length commands
  pub out_is : SaidPart (begun (drop count commands) (said (take count commands) draws at).at.place)
      (after_told taken (said (take count commands) draws at).bytes) out
  pub place_is : Contains (rests_before (drop count commands) (said (take count commands) draws at).draws
      (said (take count commands) draws at).at) later
  pub performed : ArePerformed (take count commands) draws at

abbrev pub rests_by : (List Asked → Place → List ℕ) → Option (List ℕ) → Option (List Asked) → Option Draws → Seen
    → Option (List ℕ) → Place → Type 0
rests_by begun taken None draws at out later = ⊤
rests_by begun taken (Some commands) None at out later = ⊤
rests_by begun taken (Some commands) (Some draws) at out later = AnsweredWhole begun taken commands draws at out later

-- the same, where the commands, the clock and the random bytes are told
unfoldable pub Rests : (List Asked → Place → List ℕ) → Course → Option (List ℕ) → Place → Type 0
Rests begun c out later = rests_by begun c.taken c.commands c.draws c.at out later

-- a session has stopped so, with this in its sink, and what a crash leaves of its disk is that place alone
pub record IsAtRest (begun : List Asked → Place → List ℕ) (c : Course) (out : Option (List ℕ))
    (now : View) : Type 0 where
  pub place : Place
  pub may : Rests begun c out place
  pub stands : RecoversTo place now

-- ---- what a crash may leave at any moment of it

-- a place that the events of the lines reach
abbrev pub leaves_by : Option (List Asked) → Option Draws → Seen → Files → Type 0
leaves_by None draws at c = ⊤
leaves_by (Some commands) None at c = ⊤
leaves_by (Some commands) (Some draws) at c = RecoversWhere (IsReached commands draws at) c

unfoldable pub Leaves : Course → Files → Type 0
Leaves c files = leaves_by c.commands c.draws c.at files

-- ---- what was done of it

-- each line was performed, as an event of the primary's history or as several of them
abbrev pub performed_by : Option (List Asked) → Option Draws → Seen → Type 0
performed_by None draws at = ⊤
performed_by (Some commands) None at = ⊤
performed_by (Some commands) (Some draws) at = ArePerformed commands draws at

-- the same, where the commands, the clock and the random bytes are told
unfoldable pub IsDoneWhole : Course → Type 0
IsDoneWhole c = performed_by c.commands c.draws c.at

-- ---- one course from another

-- Whatever comes of the later course may come of the earlier one.
pub record Follows (earlier later : Course) : Type 0 where
  pub ends : ending earlier ≡ ending later
  pub stops : (out : Option (List ℕ)) (first : Place) (others : List Place) → Stops later out first others
      → Stops earlier out first others
  pub between : (out : Option (List ℕ)) (place : Place) → RestsBetween later out place → RestsBetween earlier out place
  pub rests : (begun : List Asked → Place → List ℕ) (out : Option (List ℕ)) (place : Place)
      → Rests begun later out place → Rests begun earlier out place
  pub leaves : (c : Files) → Leaves later c → Leaves earlier c
  pub done : IsDoneWhole later → IsDoneWhole earlier

-- What is open shows a state from which the course goes on.
pub record GoesOnFrom (earlier : Course) (o : Opened) (taken : Option (List ℕ)) (refused : Bool)
    (commands : Option (List Asked)) (draws : Option Draws) : Type 0 where
  pub state : State
  pub has : HasState o state
  pub follows : Follows earlier (course taken refused commands draws (seen (place_of o) state))

-- ---- the plain statement

-- What was written is a front of the replies to the first so many commands, which were performed, and a crash leaves
-- the place after these commands, or one that the next of them makes, of whose reply nothing was written.
pub record HasStoppedAfter (taken : List ℕ) (commands : List Asked) (draws : Draws) (at : Seen) (out : Option (List ℕ))
    (first : Place) (others : List Place) : Type 0 where
  -- the commands of which a byte may have been written, and those that may be done
  pub answered : ℕ
  pub done : ℕ
  pub order : answered ≤ done
  pub next : done ≤ answered + 1
  pub within : done ≤ length commands
  pub written : List ℕ
  pub unwritten : List ℕ
  pub out_is : out ≡ Some (taken ++ written)
  pub replies : (said (take answered commands) draws at).bytes ≡ written ++ unwritten
  pub performed : ArePerformed (take answered commands) draws at
  pub first_is : first ≡ (said (take answered commands) draws at).at.place
  pub others_are : places_made (take done commands) draws at ≡ places_made (take answered commands) draws at ++ others
