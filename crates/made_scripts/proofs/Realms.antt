-- A database keeps its realm behind each line, so that a script that is played is a session.
use Rattle.std.proofs.Common.{◌≡◌, ◌∙◌, ℕ, Bool, true, false, List, [], ◌∷◌, ap, map, refl}
use Rattle.std.specs.Prelude.{Option, Some, None, if◌then◌else◌}
use Rattle.iprop_truths.specs.Parts.{end_of}
use Rattle.kadm_session.specs.Rekeying.{Progress as Rekeyings, begun, one_more as rekeyed_more}
use Rattle.kadm_session.specs.Rekeying.{rekey_ask, rekeyed, unless_refused}
use Rattle.kadm_session.specs.Renewing.{is_at_time_end, renewed}
use Rattle.kadm_session.specs.Steps.{ask_of, said, seen_after}
use Rattle.kadm_session.specs.declared.intake.Asked.{Asked}
use Rattle.kadm_session.specs.declared.intake.Asked.TheVariants.{Nothing, Refused, Does, Rekeys, ResetsLog, WritesDump}
use Rattle.kdb_base.specs.Moment.{Moment}
use Rattle.kdb_base.specs.declared.outcomes.Refusal.{Refusal}
use Rattle.kdb_histories.specs.Asks.{Ask, clock_of}
use Rattle.kdb_histories.specs.Seen.{Plan, Keep, Put, Write, Seen, after_ask, did, is_due}
use Rattle.kdb_histories.specs.Seen.{made_by, moment_at, plan_at, reset_for, reset_point}
use Rattle.kdb_histories.specs.Stages.{Anew, places, stage}
use Rattle.kdb_places.specs.Places.{Place, committed}
use Rattle.princ_rows.specs.declared.entries.Op.{Op}
use Rattle.session_base.specs.Draws.{Draws, bytes_of, moment_in}
use Rattle.made_scripts.specs.Plays.{Progress, asked_line, one_more, played}

-- ---- what an ask makes

changed_keeps : (ask : Ask) (op : Op) (p : Place) (due : Bool)
    → (end_of p (places (if due
    then stage (reset_for (clock_of ask) op p) Anew
    ∷ did ask true op p (committed op (reset_point (clock_of ask) p).time (reset_for (clock_of ask) op p)) ∷ []
    else did ask false op p (committed op (moment_at (clock_of ask) p) p) ∷ []))).realm ≡ p.realm
changed_keeps ask op p true = refl
changed_keeps ask op p false = refl

made_keeps : (ask : Ask) (plan : Plan) (p : Place) → (end_of p (places (made_by ask plan p))).realm ≡ p.realm
made_keeps ask Keep p = refl
made_keeps ask (Put op) p = changed_keeps ask op p (is_due op p)
made_keeps ask (Write bytes) p = refl

ask_keeps : (ask : Ask) (at : Seen) → (after_ask ask at).place.realm ≡ at.place.realm
ask_keeps ask at = made_keeps ask (plan_at ask at) at.place

-- ---- many that are rekeyed

either_keeps : (realm : List ℕ) (why : Option Refusal) (p later : Rekeyings) → p.at.place.realm ≡ realm
    → later.at.place.realm ≡ realm → (unless_refused why p later).at.place.realm ≡ realm
either_keeps realm None p later here behind = behind
either_keeps realm (Some why) p later here behind = here

rekeyed_keeps : (words : List (List ℕ)) (clock : Moment) (p : Rekeyings)
    → (rekeyed words clock p).at.place.realm ≡ p.at.place.realm
unfolding rekeyed
rekeyed_keeps [] clock p = refl
rekeyed_keeps (word ∷ words) clock p =
    let next = rekeyed_more clock word p in
    let here : next.at.place.realm ≡ p.at.place.realm = ask_keeps (rekey_ask clock (bytes_of 512 p.stream) word) p.at in
    either_keeps p.at.place.realm next.why next (rekeyed words clock next) here (rekeyed_keeps words clock next ∙ here)

-- ---- a line

reset_keeps : (now_ : Moment) (at : Seen) (last : Bool)
    → (if last then at else renewed now_ at).place.realm ≡ at.place.realm
reset_keeps now_ at true = refl
reset_keeps now_ at false = refl

line_keeps : (asked : Asked) (draws : Draws) (at : Seen) → (seen_after asked draws at).place.realm ≡ at.place.realm
unfolding seen_after
line_keeps Nothing draws at = refl
line_keeps (Refused refusal) draws at = refl
line_keeps (Does command) draws at = ask_keeps (ask_of command draws at) at
line_keeps (Rekeys glob) draws at = rekeyed_keeps _ (moment_in draws) (begun at draws.stream)
line_keeps ResetsLog draws at = reset_keeps (moment_in draws) at (is_at_time_end at)
line_keeps WritesDump draws at = refl

-- ---- a script

pub same_end : (lines : List (List ℕ)) (p : Progress)
    → (played lines p).at ≡ (said (map (asked_line p.at.place.realm) lines) p.draws p.at).at
unfolding played said
same_end [] p = refl
same_end (line ∷ lines) p =
    let next = one_more line p in
    same_end lines next
    ∙ ap (λ (realm : List ℕ). (said (map (asked_line realm) lines) next.draws next.at).at)
    (line_keeps (asked_line p.at.place.realm line) p.draws p.at)

pub same_left : (lines : List (List ℕ)) (p : Progress)
    → (played lines p).draws ≡ (said (map (asked_line p.at.place.realm) lines) p.draws p.at).draws
unfolding played said
same_left [] p = refl
same_left (line ∷ lines) p =
    let next = one_more line p in
    same_left lines next
    ∙ ap (λ (realm : List ℕ). (said (map (asked_line realm) lines) next.draws next.at).draws)
    (line_keeps (asked_line p.at.place.realm line) p.draws p.at)
