use Rattle.std.proofs.Common.{ℕ, List, ap, sym, ◌∙◌, arith, unsigned_abs, slice_index}
use Rattle.jiff.specs.Words.{civil_seconds}
use Rattle.kadm_values.specs.Times.{civil_text}
use Rattle.kadm_values.proofs.TimeLemmas.{year_is, year_small, day_small, year_passed}
use Rattle.kadm_values.proofs.TimeLemmas.{part_passed, can_make, same_seconds, seconds_passed}
use Rattle.kadm_values.proofs.times.seconds_spelled.Goals as goal

pub returns-in-Ok : goal.returns-in-Ok
unfolding civil_text
returns-in-Ok c = λ secs s.
    let t = s.time in
    let byte = λ (i : ℕ). ap (λ (x : List ℕ). slice_index x i) s.text_is in
    let year = c.year_at-year.ensures (unsigned_abs t.date.year) (year_small t) (byte 0) (byte 1) (byte 2) (byte 3) in
    let month = c.two_at-month.ensures.value t.date.month (omega arith) (byte 5) (byte 6) in
    let day = c.two_at-day.ensures.value t.date.day (day_small t) (byte 8) (byte 9) in
    let hour = c.two_at-hour.ensures.value t.time.hour (omega arith) (byte 11) (byte 12) in
    let minute = c.two_at-minute.ensures.value t.time.minute (omega arith) (byte 14) (byte 15) in
    let second = c.two_at-second.ensures.value t.time.second (omega arith) (byte 17) (byte 18) in
    let made = c.in-Ok.ensures.value in
    let same = same_seconds c.in-Ok.time t _ _ _ _ _ _ made.0 made.1.0 made.1.1 made.1.2
    (year_passed _ _ year (year_small t) ∙ sym (year_is t secs s.at)) (part_passed _ _ month (omega arith))
    (part_passed _ _ day (day_small t))
    (part_passed _ _ hour (omega arith)) (part_passed _ _ minute (omega arith))
    (part_passed _ _ second (omega arith)) in
    c.in_range.ensures secs s.at.fits
    (seconds_passed _ secs (c.to_second.ensures.value ∙ ap civil_seconds c.to_plain.ensures ∙ same ∙ s.at.seconds)
    s.at.fits)

pub returns-in-Err : goal.returns-in-Err
unfolding civil_text
returns-in-Err c = λ secs s.
    let t = s.time in
    let byte = λ (i : ℕ). ap (λ (x : List ℕ). slice_index x i) s.text_is in
    let year = c.year_at-year.ensures (unsigned_abs t.date.year) (year_small t) (byte 0) (byte 1) (byte 2) (byte 3) in
    let month = c.two_at-month.ensures.value t.date.month (omega arith) (byte 5) (byte 6) in
    let day = c.two_at-day.ensures.value t.date.day (day_small t) (byte 8) (byte 9) in
    let hour = c.two_at-hour.ensures.value t.time.hour (omega arith) (byte 11) (byte 12) in
    let minute = c.two_at-minute.ensures.value t.time.minute (omega arith) (byte 14) (byte 15) in
    let second = c.two_at-second.ensures.value t.time.second (omega arith) (byte 17) (byte 18) in
    let none = c.in-Err.ensures.succeeds.1 (can_make t _ _ _ _ _ _
    (year_passed _ _ year (year_small t) ∙ sym (year_is t secs s.at)) (part_passed _ _ month (omega arith))
    (part_passed _ _ day (day_small t))
    (part_passed _ _ hour (omega arith)) (part_passed _ _ minute (omega arith))
    (part_passed _ _ second (omega arith))) in
    cc
