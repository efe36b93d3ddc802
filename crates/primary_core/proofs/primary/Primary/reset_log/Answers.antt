use Rattle.std.proofs.Common.{◌≡◌, false, [], ◌∷◌, rules, ap, subst, ◌∙◌}
use Rattle.kadm_commands.specs.declared.replies.Reply.TheVariants as reply
use Rattle.kdb_disk.proofs.Runs.{started, weaken}
use Rattle.kdb_histories.specs.Asks.{Replied}
use Rattle.kdb_histories.specs.Calls.{ResetLog}
use Rattle.kdb_histories.specs.Seen.{reset_point}
use Rattle.kdb_histories.specs.Stages.{Anew, stage}
use Rattle.kdb_model.specs.Calls.{is_last}
use Rattle.kdb_model.specs.Laws.{IsPoint}
use Rattle.kdb_places.proofs.Points.{first_point}
use Rattle.kdb_places.specs.Places.{base_marker, no_point, point_of}
use Rattle.primary_core.proofs.Begun.{begun_at, reset_makes}
use Rattle.primary_core.proofs.Called.{call_leaves, call_stays}
use Rattle.primary_core.proofs.primary.Primary.reset_log.Goals as goal
use Rattle.primary_core.specs.Opened.{place_of}

pub returns-then-is_last-clause-crash : goal.returns-then-is_last-clause-crash
returns-then-is_last-clause-crash g c = λ s whole has. record {
  told = λ t. started _ _ (λ f i. call_stays (place_of c.args.self.now) s (ResetLog c.args.now) f
      (c.what_is_kept_is_recovered.ensures _ (c.requires.on t whole) f i));
}

pub returns-in-Ok-clause-point : goal.returns-in-Ok-clause-point
returns-in-Ok-clause-point g c =
    c.point-in-Ok.ensures ∙ ap point_of c.in-Ok.ensures.place
    ∙ first_point no_point (base_marker (reset_point c.args.now (place_of c.args.self.now)))

pub returns-in-Ok-clause-crash : goal.returns-in-Ok-clause-crash
returns-in-Ok-clause-crash g c = λ s whole has.
    let more : is_last (point_of (place_of c.args.self.now)).time ≡ false = search rules in
    record {
      told = λ t. weaken (c.begin_log.ensures.crash.told t)
          (λ f l. call_leaves (place_of c.args.self.now) s (ResetLog c.args.now) (Replied reply.Stashed)
          (stage (begun_at c.args.now (place_of c.args.self.now)) Anew ∷ []) (reset_makes (place_of c.args.self.now) s
          c.args.now (Replied reply.Stashed) (subst IsPoint c.point.ensures c.holds_point.ensures) more) f l);
    }

pub returns-in-Err-clause-crash : goal.returns-in-Err-clause-crash
returns-in-Err-clause-crash g c = λ s whole has.
    let more : is_last (point_of (place_of c.args.self.now)).time ≡ false = search rules in
    record {
      told = λ t. weaken (c.begin_log.ensures.crash.told t)
          (λ f l. call_leaves (place_of c.args.self.now) s (ResetLog c.args.now) (Replied reply.Stashed)
          (stage (begun_at c.args.now (place_of c.args.self.now)) Anew ∷ []) (reset_makes (place_of c.args.self.now) s
          c.args.now (Replied reply.Stashed) (subst IsPoint c.point.ensures c.holds_point.ensures) more) f l);
    }
