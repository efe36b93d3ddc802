use Rattle.std.proofs.Common.{sym, refl}
use Rattle.master_keys.proofs.Chains.{aux_opens, aux_there, by_aux_key, same_blob}
use Rattle.master_keys.proofs.opening.newest_key.Goals as goal

pub returns-then-version-entry-clause-ok : goal.returns-then-version-entry-clause-ok
returns-then-version-entry-clause-ok c =
    record { itself = λ _. refl; by_aux = λ other. absurd (other c.if-version-entry.true) }

pub returns-then-version-entry-clause-only : goal.returns-then-version-entry-clause-only
returns-then-version-entry-clause-only c newest l = sym (l.itself c.if-version-entry.true)

pub returns-in-Some-find_aux-clause-ok : goal.returns-in-Some-find_aux-clause-ok
returns-in-Some-find_aux-clause-ok c = by_aux_key c.args.entry.now c.args.version c.args.key.now c.in-Some.part
    c.as_slice.result.now c.in-Some-find_aux.aux.now c.unwrap.result c.if-version-entry.false
    c.in-Some.is c.as_slice.ensures.value c.in-Some-find_aux.ensures.some c.in-Some-find_aux.ensures.version
    (rw (← c.new.ensures, ← c.as_slice-in-Some-find_aux.ensures) c.unwrap.ensures.ok)

pub returns-in-Some-find_aux-clause-only : goal.returns-in-Some-find_aux-clause-only
returns-in-Some-find_aux-clause-only c newest l =
    c.unwrap.ensures.only newest
    (rw c.new.ensures (same_blob _ _ c.as_slice-in-Some-find_aux.ensures (aux_opens (l.by_aux c.if-version-entry.false)
    c.in-Some.part c.as_slice.result.now c.in-Some-find_aux.aux.now c.in-Some.is c.as_slice.ensures.value
    c.as_slice.ensures.rising c.in-Some-find_aux.ensures.some c.in-Some-find_aux.ensures.version)))

pub returns-in-None-clause-only : goal.returns-in-None-clause-only
returns-in-None-clause-only c newest l =
    absurd (aux_there (l.by_aux c.if-version-entry.false) c.in-Some.part c.as_slice.result.now c.in-Some.is
    c.as_slice.ensures.value (c.find_aux.ensures.none c.in-None.is))
