-- What happens at a primary: what each call makes of its history, and what it sends.
use Rattle.std.specs.Prelude.{ℕ, ◌≡◌, ◌+◌, ◌-◌, Bool, true, false, nat_eq}
use Rattle.std.specs.Prelude.{List, [], ◌∷◌, ◌++◌, take, Option, Some, None}
use Rattle.acl_text.specs.declared.rules.AclLine.{AclLine}
use Rattle.iprop_truths.specs.Polls.{poll_reply}
use Rattle.iprop_truths.specs.Pulling.{denies_pull}
use Rattle.iprop_truths.specs.Truths.{Message, Reply, Dumped, AreTrue}
use Rattle.kdb_base.specs.declared.moments.Point.{Point}
use Rattle.kdb_base.specs.Moment.{Moment}
use Rattle.kdb_histories.specs.Asks.{Answer, clock_of}
use Rattle.kdb_histories.specs.Calls.{Call, Perform, Stash, ResetLog, Load, Open, CallMakes}
use Rattle.kdb_histories.specs.Histories.{IsCreation, IsStory}
use Rattle.kdb_histories.specs.Stages.{Stage, fold, onto, places}
use Rattle.kdb_model.specs.Laws.{IsMoment}
use Rattle.kdb_places.specs.Places.{Place, contents_of}
use Rattle.kdb_plain.specs.declared.states.State.{State}
use Rattle.princ_name.specs.Names.{NameParts}

pub record Site : Type 0 where
  -- the history that stands, the newest first; empty without a database
  pub history : List Stage
  -- those that were destroyed
  pub ended : List Stage
  -- whether the primary is open
  pub up : Bool
  -- the dumps under way, and how many there may be
  pub dumps : ℕ
  pub room : ℕ

abbrev pub no_site : Site
no_site = record { history = []; ended = []; up = false; dumps = 0; room = 1 }

abbrev pub story_of : Site → List Stage
story_of s = s.history ++ s.ended

-- what all that was made comes to
abbrev pub state_of : Site → State
state_of s = fold (story_of s)

-- all places that there ever were
abbrev pub places_of : Site → List Place
places_of s = places (story_of s)

-- every dump place is taken
abbrev pub is_busy : Site → Bool
is_busy s = nat_eq s.dumps s.room

-- ---- what becomes of a site

-- a creation has one dump place
abbrev pub begun : Stage → Bool → Site → Site
begun t up s = record { history = t ∷ []; ended = s.ended; up = up; dumps = 0; room = 1 }

-- an opening begins with no dump under way, and no other call changes them
abbrev pub dumps_after : Call → ℕ → ℕ
dumps_after (Perform ask) dumps = dumps
dumps_after (Stash clock) dumps = dumps
dumps_after (ResetLog clock) dumps = dumps
dumps_after (Load rows clock) dumps = dumps
dumps_after (Open size room clock) dumps = 0

abbrev pub room_after : Call → ℕ → ℕ
room_after (Perform ask) here = here
room_after (Stash clock) here = here
room_after (ResetLog clock) here = here
room_after (Load rows clock) here = here
room_after (Open size room clock) here = room

abbrev pub after_call : Call → List Stage → Bool → Site → Site
after_call call done up s = record {
  history = onto done s.history;
  ended = s.ended;
  up = up;
  dumps = dumps_after call s.dumps;
  room = room_after call s.room;
}

abbrev pub with_dumps : ℕ → Site → Site
with_dumps dumps s = record s { dumps = dumps }

abbrev pub fallen : Site → Site
fallen s = record s { up = false }

abbrev pub with_ended : Site → Site
with_ended s = record { history = []; ended = story_of s; up = false; dumps = 0; room = 1 }

-- ---- events

pub data SiteEvent : Type 0 where
  -- a creation that made its place, and returned or was stopped
  Creates : (t : Stage) (up : Bool) → SiteEvent
  -- a call that returned
  Calls : (call : Call) (answer : Answer) (made : List Stage) → SiteEvent
  -- a call inside which the primary crashed or its disk failed, after so many of its places
  Stops : (call : Call) (answer : Answer) (made : List Stage) (part : ℕ) → SiteEvent
  -- a crash between two calls, or inside one before its first place
  Crashes : SiteEvent
  -- a destroy, or a stop inside one that leaves nothing
  Ends : SiteEvent
  -- a call that makes no place and sends nothing: what only reads, what is refused, what wants memory
  Looks : SiteEvent
  Polls : (client : NameParts) (access : Option (List AclLine)) (asked : Point) → SiteEvent
  -- a dump begun, and one ended
  Dumps : (client : NameParts) (access : Option (List AclLine)) → SiteEvent
  EndsDump : SiteEvent

-- The stage that stands, and those before it.
pub record Stands (s : Site) : Type 0 where
  pub last : Stage
  pub others : List Stage
  pub is : s.history ≡ last ∷ others

-- a call is made of an open primary, an opening of one that is not
abbrev pub wants_open : Call → Bool
wants_open (Perform ask) = true
wants_open (Stash clock) = true
wants_open (ResetLog clock) = true
wants_open (Load rows clock) = true
wants_open (Open size room clock) = false

-- what the clock says at a call
abbrev pub clock_at : Call → Moment
clock_at (Perform ask) = clock_of ask
clock_at (Stash clock) = clock
clock_at (ResetLog clock) = clock
clock_at (Load rows clock) = clock
clock_at (Open size room clock) = clock

-- A primary that is open at once has made its files in format 2.
pub record Created (old new : Site) (t : Stage) (up : Bool) (said : Option Message) : Type 0 where
  pub none : old.history ≡ []
  pub creation : IsCreation (places old.ended) t
  pub newer : up ≡ true → t.place.format ≡ 2
  pub is : new ≡ begun t up old
  pub silent : said ≡ None

-- The call makes these places of the one that stands and of the state that all places come to, and so many of them are
-- there.
pub record Called (old new : Site) (call : Call) (answer : Answer) (made done : List Stage) (up : Bool)
    (said : Option Message) : Type 0 where
  pub at : Stands old
  pub ready : old.up ≡ wants_open call
  pub clock : IsMoment (clock_at call)
  pub makes : CallMakes at.last.place (state_of old) call answer made
  pub is : new ≡ after_call call done up old
  pub silent : said ≡ None

pub record Ended (old new : Site) (said : Option Message) : Type 0 where
  pub at : Stands old
  pub is : new ≡ with_ended old
  pub silent : said ≡ None

pub record Becomes (site new : Site) (said : Option Message) : Type 0 where
  pub is : new ≡ site
  pub silent : said ≡ None

-- An open primary sends this of the place that stands.
pub record Sends (old new : Site) (message : Place → Message) (said : Option Message) : Type 0 where
  pub at : Stands old
  pub ready : old.up ≡ true
  pub is : new ≡ old
  pub says : said ≡ Some (message at.last.place)

-- An open primary with a free dump place begins a dump for a client that is not denied.
pub record Begins (old new : Site) (client : NameParts) (access : Option (List AclLine))
    (said : Option Message) : Type 0 where
  pub at : Stands old
  pub ready : old.up ≡ true
  pub allowed : denies_pull access client ≡ false
  pub free : is_busy old ≡ false
  pub is : new ≡ with_dumps (old.dumps + 1) old
  pub says : said ≡ Some (Dumped (contents_of at.last.place))

pub record EndedDump (old new : Site) (said : Option Message) : Type 0 where
  pub ready : old.up ≡ true
  pub is : new ≡ with_dumps (old.dumps - 1) old
  pub silent : said ≡ None

-- the event leads from the one to the other, and this is sent
abbrev pub HappensAt : SiteEvent → Site → Site → Option Message → Type 0
HappensAt (Creates t up) old new said = Created old new t up said
HappensAt (Calls call answer made) old new said = Called old new call answer made made true said
HappensAt (Stops call answer made part) old new said = Called old new call answer made (take part made) false said
HappensAt Crashes old new said = Becomes (fallen old) new said
HappensAt Ends old new said = Ended old new said
HappensAt Looks old new said = Becomes old new said
HappensAt (Polls client access asked) old new said =
    Sends old new (λ p. Reply (poll_reply (denies_pull access client) (is_busy old) asked p.held)) said
HappensAt (Dumps client access) old new said = Begins old new client access said
HappensAt EndsDump old new said = EndedDump old new said

-- ---- runs

abbrev pub also : Option Message → List Message → List Message
also None sent = sent
also (Some m) sent = m ∷ sent

-- The events lead from the one, where this was sent, to the other, where all this was.
abbrev pub SiteRun : Site → List Message → List SiteEvent → Site → List Message → Type 0
SiteRun old sent [] new all = (new ≡ old) × (all ≡ sent)
SiteRun old sent (event ∷ events) new all =
    (next : Site) × (said : Option Message) × HappensAt event old next said
    × SiteRun next (also said sent) events new all

-- an open primary's files are of format 2
abbrev pub IsFresh : Bool → List Stage → Type 0
IsFresh false history = Unit {0}
IsFresh true [] = Unit {0}
IsFresh true (t ∷ history) = t.place.format ≡ 2

-- What holds of a primary: all that ever was is a story, of whose places every message that was sent is true.
pub record SiteHolds (s : Site) (sent : List Message) : Type 0 where
  pub fresh : IsFresh s.up s.history
  pub story : IsStory (story_of s)
  pub told : AreTrue (places_of s) sent
