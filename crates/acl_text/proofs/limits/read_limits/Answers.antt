use Rattle.acl_text.proofs.LimitLemmas.{limits_found, none_found}
use Rattle.acl_text.proofs.limits.read_limits.Goals as goal

pub returns-in-Some : goal.returns-in-Some
returns-in-Some c =
    limits_found c.known_restrictions.result.now c.args.words.now c.in_ok-found.field-0 c.in-Some.found
    c.deref.result.now c.limits_by.result
    c.known_restrictions.ensures c.in_ok-found.ensures.parts c.in-Some.is c.deref.ensures.value c.limits_by.ensures

pub returns-in-None : goal.returns-in-None
returns-in-None c = none_found c.known_restrictions.result.now c.args.words.now c.in_ok-found.field-0
    c.known_restrictions.ensures c.in_ok-found.ensures.parts c.in-None.is
