-- A read leaves what was pending, and puts its bytes behind.
use Rattle.std.proofs.Common.{◌+◌, ◌≤◌, take, sym, ap, ◌∙◌, arith}
use Rattle.kdb_ports.specs.Told.{before_told}
use Rattle.kadm_lines.proofs.Ranges.{front-read, rest-read, range-kept, window-read, written-back}
use Rattle.kadm_lines.proofs.windows.Window.read.Goals as goal

pub invariant_of-self : goal.invariant_of-self
invariant_of-self g c =
    let room : c.self.inside.end + c.in-Ok.count ≤ 131072 =
    omega (arith, c.self.invariant.within, c.in-Ok.ensures.bound) in
    rw (written-back _ _ _ _ c.read_into.auto.bytes c.deref_mut.ensures.len)
    (window-read _ _ _ _ _ _ _ _ _ c.self.invariant c.deref_mut.ensures.value c.read_into.ensures.kept
    c.read_into.auto.bytes (omega arith) room)

pub invariant_of-self-in-Err : goal.invariant_of-self-in-Err
invariant_of-self-in-Err g c =
    rw (written-back _ _ _ _ c.read_into.auto.bytes c.deref_mut.ensures.len)
    (window-read _ _ _ _ _ _ _ _ _ c.self.invariant c.deref_mut.ensures.value c.read_into.ensures.kept
    c.read_into.auto.bytes (omega arith) c.self.invariant.within)

pub returns-in-Ok-clause-kept : goal.returns-in-Ok-clause-kept
returns-in-Ok-clause-kept g c =
    rw (written-back _ _ _ _ c.read_into.auto.bytes c.deref_mut.ensures.len)
    (front-read _ _ _ _ _ _ c.in-Ok.count (omega (arith, c.self.invariant.start_order, c.self.invariant.clear_order))
    c.deref_mut.ensures.value c.read_into.ensures.kept
    (ap (λ s. s.pending) c.self.view_is ∙ c.make_room.ensures.pending))

pub returns-in-Ok-clause-bytes : goal.returns-in-Ok-clause-bytes
returns-in-Ok-clause-bytes g c =
    let rest =
    rest-read _ _ _ _ _ _ c.in-Ok.count (omega (arith, c.self.invariant.start_order, c.self.invariant.clear_order))
    c.deref_mut.ensures.value c.read_into.ensures.kept
    (ap (λ s. s.pending) c.self.view_is ∙ c.make_room.ensures.pending) in
    rw (written-back _ _ _ _ c.read_into.auto.bytes c.deref_mut.ensures.len)
    (c.in-Ok.ensures.bytes ∙ ap (λ t. before_told t (g.S.Source.left c.read_into.new.source)) (sym rest))

pub returns-in-Err-clause-err_pending : goal.returns-in-Err-clause-err_pending
returns-in-Err-clause-err_pending g c =
    rw (written-back _ _ _ _ c.read_into.auto.bytes c.deref_mut.ensures.len)
    (range-kept _ _ c.self.inside.end _ _ (omega arith)
    (c.read_into.ensures.kept ∙ ap (λ t. take c.self.inside.end t) c.deref_mut.ensures.value)
    ∙ ap (λ s. s.pending) c.self.view_is ∙ c.make_room.ensures.pending)
