-- Which files a crash may leave of what happened to a primary: by hindsight, what then happened is told of them.
use Rattle.std.specs.Prelude.{◌≡◌, false, List, [], ◌∷◌}
use Rattle.std.specs.List.{All}
use Rattle.iprop_truths.specs.Truths.{Message}
use Rattle.kdb_disk.specs.Files.{Files}
use Rattle.kdb_histories.specs.Sites.{Site, SiteEvent, Creates, Calls, Stops, Crashes}
use Rattle.kdb_histories.specs.Sites.{Ends, Looks, Polls, Dumps, EndsDump, SiteRun}
use Rattle.kdb_histories.specs.Stages.{Stage}
use Rattle.kdb_worlds.specs.Lawful.{acknowledged_at}
use Rattle.primary_events.specs.At.{StandsFor}

-- a crash, a stop inside a call, an end, and a creation that made its place and was stopped: nothing is acknowledged by
-- them, and nothing sent
abbrev pub IsQuiet : SiteEvent → Type 0
IsQuiet (Creates t up) = up ≡ false
IsQuiet (Calls call answer made) = ⊥
IsQuiet (Stops call answer made part) = Unit {0}
IsQuiet Crashes = Unit {0}
IsQuiet Ends = Unit {0}
IsQuiet Looks = ⊥
IsQuiet (Polls client access asked) = ⊥
IsQuiet (Dumps client access) = ⊥
IsQuiet EndsDump = ⊥

-- a crash, or a stop inside a call
abbrev pub IsStop : SiteEvent → Type 0
IsStop (Creates t up) = ⊥
IsStop (Calls call answer made) = ⊥
IsStop (Stops call answer made part) = Unit {0}
IsStop Crashes = Unit {0}
IsStop Ends = ⊥
IsStop Looks = ⊥
IsStop (Polls client access asked) = ⊥
IsStop (Dumps client access) = ⊥
IsStop EndsDump = ⊥

-- Events of this kind lead to a site that is not open, for which the files stand. What was sent before them is all that
-- was sent.
pub record ComesBy (Kind : SiteEvent → Type 0) (s : Site) (c : Files) : Type 0 where
  pub events : List SiteEvent
  pub each : All Kind events
  pub new : Site
  pub run : (sent : List Message) → SiteRun s sent events new sent
  pub stands : StandsFor new c
  pub closed : new.up ≡ false

-- with nothing acknowledged
abbrev pub ComesTo : Site → Files → Type 0
ComesTo s c = ComesBy IsQuiet s c

-- with nothing ended either
abbrev pub StopsTo : Site → Files → Type 0
StopsTo s c = ComesBy IsStop s c

-- what was acknowledged since the last creation, the newest first
abbrev pub acknowledged_in : List SiteEvent → List Stage → List Stage
acknowledged_in [] before = before
acknowledged_in (event ∷ events) before = acknowledged_in events (acknowledged_at event before)
