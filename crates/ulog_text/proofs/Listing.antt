-- The lines of entries, one after another.
use Rattle.std.proofs.Common.{◌≡◌, ◌∙◌, ℕ, ◌+◌, ◌-◌, ◌<◌, ◌≤◌, List, [], ◌∷◌, ◌++◌, length, map}
use Rattle.std.proofs.Common.{get_or, take, drop, refl, sym, ap, arith, append_assoc, append-nil}
use Rattle.std.specs.Prelude.{Contains, codes}
use Rattle.std.proofs.lemmas.List.{get_or-map}
use Rattle.iprop_reply.specs.Polls.{AreHeld}
use Rattle.kdb_base.specs.declared.moments.Point.{Point}
use Rattle.kadm_replies.specs.Texts.{field_line}
use Rattle.kadm_values.specs.Points.{point_text}
use Rattle.primary_answers.proofs.Polled.{IsHeldBy, all_there, one_more}
use Rattle.princ_rows.specs.declared.entries.Entry.{Entry}
use Rattle.princ_rows.specs.declared.entries.Logged.{Logged}
use Rattle.ulog_text.specs.Ulogs.{entries_text, entry_text, size_text, ulog_text}
use Rattle.update_log.specs.Logs.{Journal, entry_of}

entries_more : (entries : List Entry) (e : Entry)
    → entries_text (entries ++ e ∷ []) ≡ entries_text entries ++ entry_text e
unfolding entries_text
entries_more [] e = append-nil (entry_text e)
entries_more (x ∷ entries) e = ap (λ (rest : List ℕ). entry_text x ++ rest) (entries_more entries e)
    ∙ sym (append_assoc (entry_text x) (entries_text entries) (entry_text e))

-- one line more
pub line_more : (first last : Point) (entries : List Entry) → AreHeld first last entries
    → (k : ℕ) (e : Entry) (begin now : List ℕ) → first.sno ≤ k → k < last.sno → Contains entries e → e.point.sno ≡ k + 1
    → now ≡ begin ++ entries_text (take (k - first.sno) (drop (first.sno + 1 - first.sno) entries))
    → now ++ entry_text e ≡ begin ++ entries_text (take (k + 1 - first.sno) (drop (first.sno + 1 - first.sno) entries))
line_more first last entries h k e begin now low high c at is =
    let behind = drop (first.sno + 1 - first.sno) entries in
    let more : take (k - first.sno) behind ++ e ∷ [] ≡ take (k + 1 - first.sno) behind =
    one_more first last entries h first.sno (omega arith) k e (take (k - first.sno) behind) low high c at refl in
    ap (λ (xs : List ℕ). xs ++ entry_text e) is
    ∙ append_assoc begin (entries_text (take (k - first.sno) behind)) (entry_text e)
    ∙ ap (λ (xs : List ℕ). begin ++ xs) (sym (entries_more (take (k - first.sno) behind) e) ∙ ap entries_text more)

-- all of them
pub lines_there : (first last : Point) (entries : List Entry) → AreHeld first last entries
    → (k : ℕ) (begin now : List ℕ) → first.sno ≤ k → last.sno ≤ k
    → now ≡ begin ++ entries_text (take (k - first.sno) (drop (first.sno + 1 - first.sno) entries))
    → now ≡ begin ++ entries_text (drop 1 entries)
lines_there first last entries h k begin now low high is =
    let behind = drop (first.sno + 1 - first.sno) entries in
    let all : take (k - first.sno) behind ≡ behind =
    all_there first last entries h first.sno (omega arith) k (take (k - first.sno) behind) low high refl in
    let one : first.sno + 1 - first.sno ≡ 1 = omega arith in
    is ∙ ap (λ (es : List Entry). begin ++ entries_text es) (all ∙ ap (λ (n : ℕ). drop n entries) one)

-- none so far
pub none_yet : (k begin : ℕ) (entries : List Entry) (now : List ℕ) → begin ≡ k
    → now ≡ now ++ entries_text (take (k - begin) entries)
unfolding entries_text
none_yet k begin entries now is =
    let zeroth : k - begin ≡ 0 = omega (arith, is) in
    sym (append-nil now) ∙ ap (λ (n : ℕ). now ++ entries_text (take n entries)) (sym zeroth)

-- the entry with the first serial is the head
pub head_there : (first last : Point) (entries : List Entry) (e : Entry) → AreHeld first last entries
    → Contains entries e → e.point.sno ≡ first.sno
    → entry_text e ++ entries_text (drop 1 entries) ≡ entries_text entries
unfolding entries_text
head_there first last [] e h c is = let lt = c.1 in absurd (omega (arith, lt))
head_there first last (x ∷ entries) e h c is =
    let own : (get_or (x ∷ entries) c.0 e).point.sno ≡ first.sno + c.0 = h.serials c.0 e c.1 in
    let same : (get_or (x ∷ entries) c.0 e).point.sno ≡ e.point.sno = ap (λ (y : Entry). y.point.sno) c.2 in
    let place : c.0 ≡ 0 = omega (arith, own, same, is) in
    let head : x ≡ e = ap (λ (n : ℕ). get_or (x ∷ entries) n e) (sym place) ∙ c.2 in
    ap (λ (y : Entry). entry_text y ++ entries_text entries) (sym head)

-- the head, and what comes behind it
pub from_head : (first last : Point) (entries : List Entry) (e : Entry) (begin now end : List ℕ)
    → AreHeld first last entries → Contains entries e → e.point.sno ≡ first.sno
    → now ≡ begin ++ entry_text e → end ≡ now ++ entries_text (drop 1 entries) → end ≡ begin ++ entries_text entries
from_head first last entries e begin now end h c at is behind =
    behind ∙ ap (λ (xs : List ℕ). xs ++ entries_text (drop 1 entries)) is
    ∙ append_assoc begin (entry_text e) (entries_text (drop 1 entries))
    ∙ ap (λ (xs : List ℕ). begin ++ xs) (head_there first last entries e h c at)

-- five texts, one pushed behind the other
pub pushed : (a b c d e x0 x1 x2 x3 x4 x5 : List ℕ) → x0 ≡ [] → x1 ≡ x0 ++ a → x2 ≡ x1 ++ b → x3 ≡ x2 ++ c
    → x4 ≡ x3 ++ d → x5 ≡ x4 ++ e → x5 ≡ a ++ (b ++ (c ++ (d ++ e)))
pushed a b c d e x0 x1 x2 x3 x4 x5 i0 i1 i2 i3 i4 i5 =
    rw i5 (rw i4 (rw i3 (rw i2 (rw i1 (rw i0 (simp append_assoc refl))))))

-- the log, by the points that it gives
pub ulog_is : (log : Journal) (first last : Point) (size block : ℕ) (text : List ℕ) (d : Entry)
    → IsHeldBy log first last
    → text ≡ field_line (codes "first") (point_text first) ++ (field_line (codes "last") (point_text last)
    ++ (size_text size block ++ (entries_text (map entry_of log.held) ++ codes "ok\n")))
    → text ≡ ulog_text (get_or (map entry_of log.held) 0 d).point
    (get_or (map entry_of log.held) (length log.held - 1) d).point size block (map entry_of log.held)
unfolding ulog_text
ulog_is log first last size block text d h is =
    let bare : Logged = record { entry = d; cell = 0 } in
    let some = h.journal.some in
    let begin : first ≡ (get_or (map entry_of log.held) 0 d).point =
    h.first_is bare ∙ ap (λ (e : Entry). e.point) (sym (get_or-map entry_of log.held 0 bare d some)) in
    let end : last ≡ (get_or (map entry_of log.held) (length log.held - 1) d).point =
    h.last_is bare ∙ ap (λ (e : Entry). e.point)
    (sym (get_or-map entry_of log.held (length log.held - 1) bare d (omega (arith, some)))) in
    is
    ∙ ap (λ (p : Point). ulog_text p last size block (map entry_of log.held)) begin
    ∙ ap (λ (p : Point). ulog_text (get_or (map entry_of log.held) 0 d).point p size block (map entry_of log.held)) end
