use Rattle.std.proofs.Common.{Result, Ok, Err, refl, sym, ap, subst, ◌∙◌}
use Rattle.iprop_truths.specs.Parts.{IsPart, end_of}
use Rattle.kadm_commands.specs.declared.replies.Reply.{Reply}
use Rattle.kdb_base.specs.declared.outcomes.Halt.{Halt}
use Rattle.kdb_disk.proofs.Runs.{started}
use Rattle.kdb_disk.specs.Frames.{IsCrashSafe}
use Rattle.kdb_histories.specs.Moves.{IsLeft}
use Rattle.kdb_histories.specs.Seen.{entry_point}
use Rattle.primary_core.proofs.Asked.{leaves_first}
use Rattle.primary_core.proofs.Carried.{answers_none, change_some, changes_one, err_same, none_some, same_made}
use Rattle.primary_core.proofs.primary.Primary.carry_out.Goals as goal
use Rattle.primary_core.specs.Deciding.{change_of, places_decided, reply_of}
use Rattle.primary_core.specs.Opened.{masters_behind, place_of}
use Rattle.primary_core.specs.declared.decided.Decided.{Decided}
use Rattle.primary_core.specs.declared.decided.DecidedChange.{DecidedChange}
use Rattle.store_files.specs.Recovery.{LeavesPart}

pub make-requires-clause-on : goal.make-requires-clause-on
make-requires-clause-on g c = λ t.
    c.requires.on t (c.requires.whole (change_some c.args.decided c.in-Change.change c.in-Change.reply c.in-Change.is))

pub make-requires-clause-whole : goal.make-requires-clause-whole
make-requires-clause-whole g c =
    c.requires.whole (change_some c.args.decided c.in-Change.change c.in-Change.reply c.in-Change.is)

pub make-requires-clause-may : goal.make-requires-clause-may
make-requires-clause-may g c =
    c.requires.may c.in-Change.change (changes_one c.args.decided c.in-Change.change c.in-Change.reply c.in-Change.is)

pub returns-in-Answer-clause-reply : goal.returns-in-Answer-clause-reply
returns-in-Answer-clause-reply g c = sym (ap reply_of c.in-Answer.is)

pub returns-in-Answer-clause-keeps : goal.returns-in-Answer-clause-keeps
returns-in-Answer-clause-keeps g c =
    λ none. (ap (λ (x : Decided). let r : Result Reply Halt = Ok (reply_of x) in r) (sym c.in-Answer.is), refl, refl)

pub returns-in-Answer-clause-place : goal.returns-in-Answer-clause-place
returns-in-Answer-clause-place g c = ap (λ (x : Decided). end_of (place_of c.args.self.now)
    (places_decided c.args.now (change_of x) (place_of c.args.self.now))) (sym c.in-Answer.is)

pub returns-in-Answer-clause-state : goal.returns-in-Answer-clause-state
returns-in-Answer-clause-state g c = λ change t one left masters.
    absurd (none_some c.args.decided change (answers_none c.args.decided c.in-Answer.reply c.in-Answer.is) one)

pub returns-in-Answer-clause-crash : goal.returns-in-Answer-clause-crash
returns-in-Answer-clause-crash g c = λ whole. record {
  told =
      λ t. started _ _ (λ f i. leaves_first _ _ f (c.what_is_kept_is_recovered.ensures _ (c.requires.on t whole) f i));
}

pub returns-in-Ok-clause-reply : goal.returns-in-Ok-clause-reply
returns-in-Ok-clause-reply g c = sym (ap reply_of c.in-Change.is)

pub returns-in-Ok-clause-keeps : goal.returns-in-Ok-clause-keeps
returns-in-Ok-clause-keeps g c =
    λ none. absurd ((change_some c.args.decided c.in-Change.change c.in-Change.reply c.in-Change.is) none)

pub returns-in-Ok-clause-place : goal.returns-in-Ok-clause-place
returns-in-Ok-clause-place g c = c.in-Ok.ensures.place ∙ ap (λ (x : Decided). end_of (place_of c.args.self.now)
    (places_decided c.args.now (change_of x) (place_of c.args.self.now))) (sym c.in-Change.is)

pub returns-in-Ok-clause-state : goal.returns-in-Ok-clause-state
returns-in-Ok-clause-state g c = λ made t one left masters.
    c.in-Ok.ensures.state t
    (subst (λ (x : DecidedChange). IsLeft (place_of c.args.self.now).realm
    (entry_point c.args.now x.op (place_of c.args.self.now)) x.op (place_of c.args.self.now).rows t)
    (sym (same_made c.args.decided c.in-Change.change made c.in-Change.reply c.in-Change.is one)) left)
    (masters ∙ ap (λ (x : DecidedChange). masters_behind c.args.self.now x.masters)
    (sym (same_made c.args.decided c.in-Change.change made c.in-Change.reply c.in-Change.is one)))

pub returns-in-Ok-clause-crash : goal.returns-in-Ok-clause-crash
returns-in-Ok-clause-crash g c = λ whole.
    subst (λ (x : Decided). IsCrashSafe g.D.Disk c.args.disk.now c.make.new.disk
    (LeavesPart (place_of c.args.self.now) (places_decided c.args.now (change_of x) (place_of c.args.self.now))))
    (sym c.in-Change.is) c.make.ensures.crash

pub returns-in-Err-clause-crash : goal.returns-in-Err-clause-crash
returns-in-Err-clause-crash g c = λ whole.
    subst (λ (x : Decided). IsCrashSafe g.D.Disk c.args.disk.now c.make.new.disk
    (LeavesPart (place_of c.args.self.now) (places_decided c.args.now (change_of x) (place_of c.args.self.now))))
    (sym c.in-Change.is) c.make.ensures.crash

pub returns-in-Err-clause-keeps : goal.returns-in-Err-clause-keeps
returns-in-Err-clause-keeps g c =
    λ none. absurd ((change_some c.args.decided c.in-Change.change c.in-Change.reply c.in-Change.is) none)

pub returns-in-Err-clause-part : goal.returns-in-Err-clause-part
returns-in-Err-clause-part g c = subst (λ (x : Decided). IsPart (place_of c.args.self.now)
    (places_decided c.args.now (change_of x) (place_of c.args.self.now)) (place_of c.make.new.self))
    (sym c.in-Change.is) c.in-Err.ensures.part

pub returns-in-Err-clause-memory : goal.returns-in-Err-clause-memory
returns-in-Err-clause-memory g c = λ e. c.make.ensures.memory (c.in-Err.is ∙ ap Err (err_same _ _ Reply e))

pub returns-in-Err-clause-memory_place : goal.returns-in-Err-clause-memory_place
returns-in-Err-clause-memory_place g c = λ e. c.make.ensures.memory_place (c.in-Err.is ∙ ap Err (err_same _ _ Reply e))

pub returns-in-Err-clause-still : goal.returns-in-Err-clause-still
returns-in-Err-clause-still g c = λ t e. c.make.ensures.still t (c.in-Err.is ∙ ap Err (err_same _ _ Reply e))

pub returns-in-Err-clause-whole_still : goal.returns-in-Err-clause-whole_still
returns-in-Err-clause-whole_still g c = λ e. c.make.ensures.whole_still (c.in-Err.is ∙ ap Err (err_same _ _ Reply e))

pub returns-in-Err-clause-broken : goal.returns-in-Err-clause-broken
returns-in-Err-clause-broken g c = λ e. c.make.ensures.broken (c.in-Err.is ∙ ap Err (err_same _ _ Reply e))

pub returns-in-Err-clause-call : goal.returns-in-Err-clause-call
returns-in-Err-clause-call g c = record {
  same = c.make.ensures.call.same;
  later = c.make.ensures.call.later;
  cause = λ e. c.make.ensures.call.cause (c.in-Err.is ∙ ap Err (err_same _ _ Reply e));
}
