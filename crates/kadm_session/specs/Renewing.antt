-- The log begun anew on request: what that answers, and the place and the state behind it.
use Rattle.std.specs.Prelude.{Bool, List, [], ◌∷◌, if◌then◌else◌}
use Rattle.kadm_commands.specs.declared.replies.Reply.{Reply}
use Rattle.kadm_commands.specs.declared.replies.Reply.TheVariants as reply
use Rattle.kdb_base.specs.Moment.{Moment}
use Rattle.kdb_base.specs.declared.outcomes.Refusal.TheVariants.{TimeEnd}
use Rattle.kdb_histories.specs.Seen.{Seen, reset_point, seen}
use Rattle.kdb_model.specs.Calls.{is_last}
use Rattle.kdb_model.specs.Laws.{at_point}
use Rattle.kdb_places.specs.Places.{Place, log_anew, point_of}

-- no later time is left behind the last change
abbrev pub is_at_time_end : Seen → Bool
is_at_time_end at = is_last (point_of at.place).time

-- the log with the base marker alone; its size, its blocks and the rows stay
abbrev pub renewed_place : Moment → Place → Place
renewed_place now p = log_anew (reset_point now p) p.size p.block p

-- the state stays, at the point of the base marker
abbrev pub renewed : Moment → Seen → Seen
renewed now at = seen (renewed_place now at.place) (at_point (reset_point now at.place) at.state)

-- at a moment of the clock: the point of the base marker, or the refusal
abbrev pub reset_reply : Moment → Seen → Reply
reset_reply now at = if is_at_time_end at then reply.Refused TimeEnd else reply.Done (reset_point now at.place)

abbrev pub after_reset : Moment → Seen → Seen
after_reset now at = if is_at_time_end at then at else renewed now at

abbrev pub places_reset : Moment → Seen → List Place
places_reset now at = if is_at_time_end at then [] else renewed_place now at.place ∷ []
