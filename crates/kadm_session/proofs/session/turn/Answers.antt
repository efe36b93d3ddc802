use Rattle.std.proofs.Common.{◌∙◌, refl}
use Rattle.kadm_session.proofs.Turning.{comes_first, err_on, goes_first, goes_on_all, leaves_all}
use Rattle.kadm_session.proofs.Turning.{leaves_here, rests_all, rests_from, stopped_all, stops_here}
use Rattle.session_base.specs.declared.halts.SessionHalt.TheVariants.{MemoryOut, DrawFault}
use Rattle.kadm_session.proofs.session.turn.Goals as goal

pub returns-in-Err-clause-serves : goal.returns-in-Err-clause-serves
returns-in-Err-clause-serves g c = λ told s refused has. record {
  stopped =
      stops_here _ refused _ _ _ _ (c.what_is_kept_is_recovered.ensures c.args.primary.now.kept (c.requires.on told));
  memory = λ is.
      rests_from _ _ _ _ refused _ _ _ (goes_first _ refused _ _ _ s has)
      (c.what_is_kept_is_recovered.ensures c.args.primary.now.kept (c.requires.on told));
  drawn = λ is.
      rests_from _ _ _ _ refused _ _ _ (goes_first _ refused _ _ _ s has)
      (c.what_is_kept_is_recovered.ensures c.args.primary.now.kept (c.requires.on told));
  moments =
      leaves_here _ refused _ _ _ _ (c.what_is_kept_is_recovered.ensures c.args.primary.now.kept (c.requires.on told));
}

pub returns-in-Ok-End-clause-serves : goal.returns-in-Ok-End-clause-serves
returns-in-Ok-End-clause-serves g c = λ told s refused has. record {
  stopped = tt;
  memory = λ is. absurd cc;
  drawn = λ is. absurd cc;
  moments =
      leaves_here _ refused _ _ _ _ (c.what_is_kept_is_recovered.ensures c.args.primary.now.kept (c.requires.on told));
}

pub returns-in-Ok-clause-next : goal.returns-in-Ok-clause-next
returns-in-Ok-clause-next g c = λ s refused has.
    goes_on_all c.in-Ok-Line.asked _ _ _ _ refused _ _ _ _ _
    (comes_first _ _ _ _ _ _ _ _ _ c.in-Ok-Line.field-0-is (c.as_slice-realm.ensures.value ∙ c.realm.ensures)
    c.in-Ok.ensures.stays.realm c.in-Ok-Line.ensures.next) (λ more. c.in-Ok.ensures.next s refused more has)

pub returns-in-Ok-clause-serves : goal.returns-in-Ok-clause-serves
returns-in-Ok-clause-serves g c = λ told s refused has. record {
  stopped = tt;
  memory = λ is. absurd cc;
  drawn = λ is. absurd cc;
  moments =
      leaves_all c.in-Ok-Line.asked _ _ _ refused _ _
      (comes_first _ _ _ _ _ _ _ _ _ c.in-Ok-Line.field-0-is (c.as_slice-realm.ensures.value ∙ c.realm.ensures)
      refl c.in-Ok-Line.ensures.next)
      (λ more. (c.answer.ensures.serves told s refused more has).moments);
}

pub returns-clause-serves : goal.returns-clause-serves
returns-clause-serves g c = λ told s refused has. record {
  stopped =
      stopped_all c.in-Ok-Line.asked _ _ _ refused _ _ _ _
      (comes_first _ _ _ _ _ _ _ _ _ c.in-Ok-Line.field-0-is (c.as_slice-realm.ensures.value ∙ c.realm.ensures)
      refl c.in-Ok-Line.ensures.next)
      (λ more. (c.in-Err-answer.ensures.serves told s refused more has).stopped);
  memory = λ is.
      rests_all _ c.in-Ok-Line.asked _ _ _ refused _ _ _ _
      (comes_first _ _ _ _ _ _ _ _ _ c.in-Ok-Line.field-0-is (c.as_slice-realm.ensures.value ∙ c.realm.ensures)
      refl c.in-Ok-Line.ensures.next)
      (λ more. (c.answer.ensures.serves told s refused more has).memory
      (err_on c.answer.result _ _ c.in-Err-answer.halt MemoryOut c.in-Err-answer.is refl refl is));
  drawn = λ is.
      rests_all _ c.in-Ok-Line.asked _ _ _ refused _ _ _ _
      (comes_first _ _ _ _ _ _ _ _ _ c.in-Ok-Line.field-0-is (c.as_slice-realm.ensures.value ∙ c.realm.ensures)
      refl c.in-Ok-Line.ensures.next)
      (λ more. (c.answer.ensures.serves told s refused more has).drawn
      (err_on c.answer.result _ _ c.in-Err-answer.halt DrawFault c.in-Err-answer.is refl refl is));
  moments =
      leaves_all c.in-Ok-Line.asked _ _ _ refused _ _
      (comes_first _ _ _ _ _ _ _ _ _ c.in-Ok-Line.field-0-is (c.as_slice-realm.ensures.value ∙ c.realm.ensures)
      refl c.in-Ok-Line.ensures.next)
      (λ more. (c.answer.ensures.serves told s refused more has).moments);
}
