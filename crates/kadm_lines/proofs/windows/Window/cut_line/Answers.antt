-- The line feed found in the part that was not looked at ends the first line of the whole.
use Rattle.std.proofs.Common.{◌≡◌, ◌+◌, true, take, drop, List, ℕ, slice_range, refl, ap, subst}
use Rattle.kadm_lines.specs.Windows.{Parts, lacks_feed}
use Rattle.kadm_lines.proofs.Ranges.{lacks-range, cut-line, place-within, window-cut, window-clear}
use Rattle.kadm_lines.proofs.windows.Window.cut_line.Goals as goal

pub invariant_of-self : goal.invariant_of-self
invariant_of-self c =
    window-cut c.self.inside.bytes.items _ _ _ _ _ c.in-Some.place c.self.invariant
    (place-within _ c.deref.result.now _ _ _ _ _ _ c.self.invariant c.deref.ensures.value c.in-Some.ensures.within)

pub invariant_of-self-in-None : goal.invariant_of-self-in-None
invariant_of-self-in-None c =
    let clear : lacks_feed (slice_range c.self.inside.bytes.items c.self.inside.clear c.self.inside.end) ≡ true =
    rw (← c.deref.ensures.value) (c.in-None.ensures.none refl) in
    window-clear c.self.inside.bytes.items _ _ _ _ _ c.self.invariant
    (lacks-range _ _ _ _ c.self.invariant.start_order c.self.invariant.clear_order c.self.invariant.lacks clear)

pub returns-in-Some-clause-cut : goal.returns-in-Some-clause-cut
returns-in-Some-clause-cut c = λ _.
    let was : slice_range c.self.inside.bytes.items c.self.inside.start c.self.inside.end ≡ c.args.self.now.pending =
    ap (λ s. s.pending) c.self.view_is in
    let lt =
    place-within _ c.deref.result.now _ _ _ _ _ _ c.self.invariant c.deref.ensures.value c.in-Some.ensures.within in
    let parts = subst (λ (t : List ℕ). Parts (slice_range t c.self.inside.clear c.self.inside.end)
    (take c.in-Some.place (slice_range t c.self.inside.clear c.self.inside.end)) (drop (c.in-Some.place + 1)
    (slice_range t c.self.inside.clear c.self.inside.end))) c.deref.ensures.value c.in-Some.ensures.feed in
    subst (λ (t : List ℕ).
    Parts t (slice_range c.self.inside.bytes.items c.self.inside.start (c.self.inside.clear + c.in-Some.place))
    (slice_range c.self.inside.bytes.items (c.self.inside.clear + c.in-Some.place + 1) c.self.inside.end)) was
    (cut-line c.self.inside.bytes.items c.self.inside.start c.self.inside.clear c.self.inside.end c.in-Some.place
    c.self.invariant.start_order c.self.invariant.clear_order lt c.self.invariant.lacks parts)

pub returns-in-None-clause-clear : goal.returns-in-None-clause-clear
returns-in-None-clause-clear c = λ _.
    let clear : lacks_feed (slice_range c.self.inside.bytes.items c.self.inside.clear c.self.inside.end) ≡ true =
    rw (← c.deref.ensures.value) (c.in-None.ensures.none refl) in
    lacks-range _ _ _ _ c.self.invariant.start_order c.self.invariant.clear_order c.self.invariant.lacks clear
