-- What is not due stays so, whatever follows.
use Rattle.std.proofs.Common.{◌≡◌, ℕ, ◌≤◌, ◌+◌, ◌-◌, Bool, true, false, not, ◌&&◌, List, [], ◌∷◌}
use Rattle.std.proofs.Common.{◌++◌, length, drop, Option, Some, None, refl, sym, ap, ◌∙◌, arith}
use Rattle.std.specs.Prelude.{◌||◌, nat_eq, nat_lt, slice_index, if◌then◌else◌}
use Rattle.std.proofs.lemmas.Bool.{ltb-false, le-ltb}
use Rattle.std.proofs.lemmas.List.{length-append}
use Rattle.byteorder.specs.Endian.{big_number}
use Rattle.kdb_base.specs.declared.moments.Point.{Point}
use Rattle.kdb_format.specs.Moments.{point_at}
use Rattle.kdb_format.specs.Readings.{big_at, whole}
use Rattle.princ_rows.specs.Entries.{sent_at}
use Rattle.princ_rows.specs.declared.entries.Entry.{Entry}
use Rattle.princ_rows.specs.declared.replies.ReplyCode.TheVariants.{UpdateOk}
use Rattle.iprop_wire.specs.Decoding.{Begun, Nothing, Updates, Pieces, State, Going, Waits, Broken, Spent}
use Rattle.iprop_wire.specs.Decoding.{after_ask, after_dump_frame, after_first_frame, after_frame, after_head}
use Rattle.iprop_wire.specs.Decoding.{after_piece, after_total, after_update, after_update_frame, fed, fresh}
use Rattle.iprop_wire.specs.Decoding.{head_at, is_length, is_of_dump, may_come, or_broken, settled}
use Rattle.iprop_wire.specs.Due.{is_due, is_due_begun, is_due_kind, is_due_message, wants_dump}
use Rattle.iprop_wire.specs.Frames.{hello_kind, poll_kind, ask_kind, reply_kind, update_kind, piece_kind, total_kind}
use Rattle.iprop_wire.specs.declared.due.Due.{Due}
use Rattle.iprop_wire.specs.declared.due.Due.TheVariants as due
use Rattle.iprop_wire.specs.declared.messages.Message.{Message}
use Rattle.iprop_wire.specs.declared.messages.Message.TheVariants.{Hello, Poll, Ask, Reply, DumpText}
use Rattle.iprop_wire.proofs.Reading.{fed_parts}
use Rattle.iprop_wire.proofs.Steps.{same_kind}

if_not : (d : Due) (b : Bool) (s t : State) → is_due d s ≡ false → is_due d t ≡ false
    → is_due d (if b then s else t) ≡ false
if_not d true s t a b = a
if_not d false s t a b = b

or_not : {A : Type 0} (d : Due) (o : Option A) (next : A → State) → ((x : A) → is_due d (next x) ≡ false)
    → is_due d (or_broken o next) ≡ false
or_not d None next each = refl
or_not d (Some x) next each = each x

-- ---- whole frames

piece_not : (text behind : List ℕ) → is_due due.Reply (after_piece text behind) ≡ false
piece_not text behind =
    if_not due.Reply (nat_eq (length behind) 0) Broken (Going (Pieces (text ++ behind)) []) refl refl

total_not : (text : List ℕ) (total : ℕ) → is_due due.Reply (after_total text total) ≡ false
total_not text total = if_not due.Reply (nat_eq total (length text)) (Waits (DumpText text)) Broken refl refl

dump_not : (text : List ℕ) (kind : ℕ) (behind : List ℕ) → is_due due.Reply (after_dump_frame text kind behind) ≡ false
unfolding after_dump_frame
dump_not text kind behind =
    let total = or_broken (whole (big_at 8) behind) (after_total text) in
    if_not due.Reply (nat_eq kind piece_kind) (after_piece text behind)
    (if nat_eq kind total_kind then total else Broken) (piece_not text behind)
    (if_not due.Reply (nat_eq kind total_kind) total Broken
    (or_not due.Reply (whole (big_at 8) behind) (after_total text) (total_not text)) refl)

update_not : (asked : Point) (left : ℕ) (got : List Entry) (e : Entry)
    → is_due due.Dump (after_update asked left got e) ≡ false
update_not asked left got e = by (nat_eq left 1)
  where
    by : (b : Bool) → is_due due.Dump
        (if b then Waits (Reply (record { code = UpdateOk; asked = asked; updates = got ++ (e ∷ []) }))
        else Going (Updates asked (left - 1) (got ++ (e ∷ []))) []) ≡ false
    by true = refl
    by false = refl

updates_not : (asked : Point) (left : ℕ) (got : List Entry) (kind : ℕ) (behind : List ℕ)
    → is_due due.Dump (after_update_frame asked left got kind behind) ≡ false
unfolding after_update_frame
updates_not asked left got kind behind =
    let next = or_broken (whole sent_at behind) (after_update asked left got) in
    if_not due.Dump (nat_eq kind update_kind) next Broken
    (or_not due.Dump (whole sent_at behind) (after_update asked left got) (update_not asked left got)) refl

-- a frame of a dump, where none is due or it is none
last_not : (d : Due) (kind : ℕ) (behind : List ℕ) → is_due_kind d kind ≡ false
    → is_due d (after_dump_frame [] kind behind) ≡ false
unfolding after_dump_frame
last_not due.Reply kind behind not_due = dump_not [] kind behind
last_not due.Dump kind behind not_due =
    by (nat_eq kind reply_kind) (nat_eq kind piece_kind) (nat_eq kind total_kind) not_due
  where
    by : (a b c : Bool) → (a || (b || c)) ≡ false → is_due due.Dump (if b then after_piece [] behind else if c
        then or_broken (whole (big_at 8) behind) (after_total []) else Broken) ≡ false
    by true b c not_due = absurd cc
    by false true c not_due = absurd cc
    by false false true not_due = absurd cc
    by false false false not_due = refl

-- it is the first of none that is due
reply_not : (d : Due) (kind : ℕ) (behind : List ℕ) → is_due_kind d kind ≡ false
    → is_due d (if nat_eq kind reply_kind then or_broken (whole head_at behind) after_head
    else after_dump_frame [] kind behind) ≡ false
reply_not d kind behind not_due = by (nat_eq kind reply_kind) refl
  where
    by : (a : Bool) → nat_eq kind reply_kind ≡ a
        → is_due d (if a then or_broken (whole head_at behind) after_head else after_dump_frame [] kind behind) ≡ false
    by true is = let never : true ≡ false =
        ap (λ (a : Bool). a || (wants_dump d && is_of_dump kind)) (sym is) ∙ not_due in absurd cc
    by false is = last_not d kind behind not_due

first_not : (d : Due) (kind : ℕ) (behind : List ℕ) → is_due_kind d kind ≡ false
    → is_due d (after_first_frame kind behind) ≡ false
unfolding after_first_frame
first_not d kind behind not_due =
    let reply = if nat_eq kind reply_kind then or_broken (whole head_at behind) after_head
    else after_dump_frame [] kind behind in
    let ask = if nat_eq kind ask_kind then after_ask behind else reply in
    let poll = if nat_eq kind poll_kind then or_broken (whole point_at behind) (λ asked. Waits (Poll asked)) else ask in
    if_not d (nat_eq kind hello_kind) (Waits (Hello behind)) poll refl
    (if_not d (nat_eq kind poll_kind) (or_broken (whole point_at behind) (λ asked. Waits (Poll asked))) ask
    (or_not d (whole point_at behind) (λ asked. Waits (Poll asked)) (λ asked. refl))
    (if_not d (nat_eq kind ask_kind) (after_ask behind) reply
    (if_not d (nat_eq (length behind) 0) (Waits Ask) Broken refl refl) (reply_not d kind behind not_due)))

-- ---- one byte more

settled_not : (d : Due) (b : Begun) (h : List ℕ) → is_due_begun d b h ≡ false
    → is_due d (after_frame b (slice_index h 4) (drop 5 h)) ≡ false → is_due d (settled b h) ≡ false
unfolding settled
settled_not d b h going frame =
    by (nat_lt (length h) 4) (not (is_length (big_number 4 h)))
    (nat_lt (length h) 5) (not (may_come b (slice_index h 4))) (nat_lt (length h) (4 + big_number 4 h)) (Going b h)
    (after_frame b (slice_index h 4) (drop 5 h)) going frame
  where
    by : (u v w x y : Bool) (s t : State) → is_due d s ≡ false → is_due d t ≡ false
        → is_due d (if u then s else if v then Broken else if w then s else if x then Broken else if y then s else t)
        ≡ false
    by true v w x y s t going frame = going
    by false true w x y s t going frame = refl
    by false false true x y s t going frame = going
    by false false false true y s t going frame = refl
    by false false false false true s t going frame = going
    by false false false false false s t going frame = frame

or_false : (a b : Bool) → (a || b) ≡ false → (a ≡ false) × (b ≡ false)
or_false true b e = absurd cc
or_false false b e = (refl, e)

-- the kind of the first frame stands
first_begun : (d : Due) (h : List ℕ) (x : ℕ) → is_due_begun d Nothing h ≡ false
    → (is_due_begun d Nothing (h ++ (x ∷ [])) ≡ false) × (is_due_kind d (slice_index (h ++ (x ∷ [])) 4) ≡ false)
first_begun d h x not_due =
    let parts = or_false (nat_lt (length h) 5) (is_due_kind d (slice_index h 4)) not_due in
    let many : 5 ≤ length h = ltb-false (length h) 5 parts.0 in
    let long = length-append h (x ∷ []) in
    let kind : is_due_kind d (slice_index (h ++ (x ∷ [])) 4) ≡ false =
    ap (is_due_kind d) (same_kind h (x ∷ []) many) ∙ parts.1 in
    (rw (le-ltb (length (h ++ (x ∷ []))) 5 (omega arith)) kind, kind)

step_not : (d : Due) (b : Begun) (h : List ℕ) (x : ℕ) → is_due_begun d b h ≡ false
    → is_due d (settled b (h ++ (x ∷ []))) ≡ false
unfolding after_frame
step_not d Nothing h x not_due =
    let next = first_begun d h x not_due in
    settled_not d Nothing (h ++ (x ∷ [])) next.0
    (first_not d (slice_index (h ++ (x ∷ [])) 4) (drop 5 (h ++ (x ∷ []))) next.1)
step_not due.Reply (Updates asked left got) h x not_due = absurd cc
step_not due.Dump (Updates asked left got) h x not_due =
    settled_not due.Dump (Updates asked left got) (h ++ (x ∷ [])) refl
    (updates_not asked left got (slice_index (h ++ (x ∷ [])) 4) (drop 5 (h ++ (x ∷ []))))
step_not due.Reply (Pieces text) h x not_due =
    settled_not due.Reply (Pieces text) (h ++ (x ∷ [])) refl
    (dump_not text (slice_index (h ++ (x ∷ [])) 4) (drop 5 (h ++ (x ∷ []))))
step_not due.Dump (Pieces text) h x not_due = absurd cc

pub stays_not : (d : Due) (s : State) (bytes : List ℕ) → is_due d s ≡ false → is_due d (fed s bytes) ≡ false
unfolding fed
stays_not d s [] not_due = not_due
stays_not d (Going b h) (x ∷ bytes) not_due = stays_not d (settled b (h ++ (x ∷ []))) bytes (step_not d b h x not_due)
stays_not d (Waits m) (x ∷ bytes) not_due = not_due
stays_not d Broken (x ∷ bytes) not_due = not_due
stays_not d Spent (x ∷ bytes) not_due = not_due

-- no message that is due begins so
pub never_due : (d : Due) (text rest : List ℕ) (m : Message) → is_due d (fed fresh text) ≡ false
    → fed fresh (text ++ rest) ≡ Waits m → is_due_message d m ≡ false
never_due d text rest m not_due is =
    sym (ap (is_due d) (sym (fed_parts fresh text rest) ∙ is)) ∙ stays_not d (fed fresh text) rest not_due
