-- What a message spells is that message.
use Rattle.std.proofs.Common.{◌≡◌, ℕ, ◌+◌, ◌-◌, ◌^◌, ◌<◌, ◌≤◌, Bool, true, false, cond, eqb, List, [], ◌∷◌}
use Rattle.std.proofs.Common.{◌++◌, length, drop, map, Option, refl, sym, ap, subst, ◌∙◌, append_assoc, arith}
use Rattle.std.specs.Prelude.{nat_lt, slice_index}
use Rattle.std.specs.List.{AllByRecursion, flat_map}
use Rattle.std.proofs.lemmas.Bool.{le-ltb}
use Rattle.std.proofs.lemmas.List.{append-nil, drop_at, get_or-append_right, length-append}
use Rattle.std.proofs.lemmas.Option.{same_Some}
use Rattle.std.proofs.lemmas.List.Elements.{recursion_from_All}
use Rattle.byteorder.specs.Endian.{big_number}
use Rattle.kdb_base.specs.declared.moments.Point.{Point}
use Rattle.kdb_format.specs.Laws.{big_field, whole_again}
use Rattle.kdb_format.specs.Moments.{point, IsPoint, point_field}
use Rattle.kdb_format.specs.Numbers.{big-byte, big_number-big, length-big}
use Rattle.kdb_format.specs.Readings.{whole}
use Rattle.kdb_format.specs.Spellings.{big}
use Rattle.princ_rows.specs.Entries.{IsSent, sent}
use Rattle.princ_rows.specs.EntryLaws.{sent_field}
use Rattle.princ_rows.specs.Replies.{IsReply, MayCome}
use Rattle.princ_rows.specs.Replies.{Reply as ReplyParts}
use Rattle.princ_rows.specs.declared.entries.Entry.{Entry}
use Rattle.princ_rows.specs.declared.replies.ReplyCode.{ReplyCode}
use Rattle.princ_rows.specs.declared.replies.ReplyCode.TheVariants.{UpdateOk, FullResyncNeeded, Busy, Nil, PermDenied}
use Rattle.iprop_wire.specs.Answers.{IsPart}
use Rattle.iprop_wire.specs.Decoding.{Begun, Nothing, Updates, Pieces, State, Going, Waits, Broken}
use Rattle.iprop_wire.specs.Decoding.{Spent, after_dump_frame, after_first_frame, after_frame}
use Rattle.iprop_wire.specs.Decoding.{after_head, after_total, after_update, after_update_frame, fed}
use Rattle.iprop_wire.specs.Decoding.{fresh, is_length, may_come, or_broken, settled, taken, waiting_in}
use Rattle.iprop_wire.specs.Frames.{Frame, frame, text_of, frame_text, most_behind, hello_kind, poll_kind}
use Rattle.iprop_wire.specs.Frames.{ask_kind, reply_kind, update_kind, piece_kind, total_kind}
use Rattle.iprop_wire.specs.HeadLaws.{IsHead, head_field}
use Rattle.iprop_wire.specs.Messages.{head_of, head_text}
use Rattle.iprop_wire.specs.Spelled.{AreFrames, IsMessage, IsPiece, Spells, update_frame}
use Rattle.iprop_wire.specs.declared.formats.Head.{Head}
use Rattle.iprop_wire.specs.declared.messages.Message.{Message}
use Rattle.iprop_wire.specs.declared.messages.Message.TheVariants.{Hello, Poll, Ask, Reply, DumpText}
use Rattle.iprop_wire.proofs.Lengths.{head_short, point_short, sent_short}
use Rattle.iprop_wire.proofs.Steps.{fed_broken, same_kind, same_number, settled_by}

-- ---- pieces

pub fed_parts : (s : State) (front back : List ℕ) → fed s (front ++ back) ≡ fed (fed s front) back
unfolding fed
fed_parts s [] back = refl
fed_parts (Going b h) (x ∷ front) back = fed_parts (settled b (h ++ (x ∷ []))) front back
fed_parts (Waits m) (x ∷ front) [] = refl
fed_parts (Waits m) (x ∷ front) (y ∷ back) = refl
fed_parts Broken (x ∷ front) [] = refl
fed_parts Broken (x ∷ front) (y ∷ back) = refl
fed_parts Spent (x ∷ front) [] = refl
fed_parts Spent (x ∷ front) (y ∷ back) = refl

pub taken_parts : (s : State) (front back : List ℕ) → taken s (front ++ back) ≡ taken s front + taken (fed s front) back
unfolding fed taken
taken_parts s [] back = let none : taken s back ≡ 0 + taken s back = omega arith in none
taken_parts (Going b h) (x ∷ front) back = let rest =
    taken_parts (settled b (h ++ (x ∷ []))) front back in omega (arith, rest)
taken_parts (Waits m) (x ∷ front) [] = refl
taken_parts (Waits m) (x ∷ front) (y ∷ back) = refl
taken_parts Broken (x ∷ front) [] = refl
taken_parts Broken (x ∷ front) (y ∷ back) = refl
taken_parts Spent (x ∷ front) [] = refl
taken_parts Spent (x ∷ front) (y ∷ back) = refl

-- ---- a whole frame

pub length-frame : (kind : ℕ) (behind : List ℕ) → length (frame_text kind behind) ≡ 5 + length behind
unfolding frame_text
length-frame kind behind = omega (
  arith,
  length-append (big 4 (1 + length behind)) (big 1 kind ++ behind),
  length-append (big 1 kind) behind,
  length-big 4 (1 + length behind),
  length-big 1 kind,
)

pub number_in : (kind : ℕ) (behind : List ℕ) → length behind ≤ most_behind
    → big_number 4 (frame_text kind behind) ≡ 1 + length behind
unfolding frame_text
number_in kind behind le =
    let n = 1 + length behind in
    same_number (big 4 n) (big 1 kind ++ behind) (omega (arith, length-big 4 n))
    ∙ big_number-big 4 n (omega (arith, le))

pub kind_in : (kind : ℕ) (behind : List ℕ) → kind < 256 → slice_index (frame_text kind behind) 4 ≡ kind
unfolding frame_text
kind_in kind behind lt =
    let n = 1 + length behind in
    get_or-append_right (big 4 n) (big 1 kind ++ behind) 4 4 0 (length-big 4 n) (omega arith)
    ∙ ap (λ (t : List ℕ). slice_index (t ++ behind) 0) (big-byte kind lt)

pub behind_in : (kind : ℕ) (behind : List ℕ) → drop 5 (frame_text kind behind) ≡ behind
unfolding frame_text
behind_in kind behind =
    let n = 1 + length behind in
    let head = big 4 n ++ big 1 kind in
    let len : length head ≡ 5 =
    omega (arith, length-append (big 4 n) (big 1 kind), length-big 4 n, length-big 1 kind) in
    ap (drop 5) (sym (append_assoc (big 4 n) (big 1 kind) behind)) ∙ drop_at head behind 5 len

-- bytes of which no front is judged to be whole
fed_prefix : (b : Begun) (h xs ys : List ℕ)
    → ((front back : List ℕ) → xs ≡ front ++ back → 0 < length back → IsPart b (h ++ front)) → 0 < length xs
    → (fed (Going b h) (xs ++ ys) ≡ fed (settled b (h ++ xs)) ys)
    × (taken (Going b h) (xs ++ ys) ≡ length xs + taken (settled b (h ++ xs)) ys)
unfolding fed taken
fed_prefix b h [] ys parts lt = absurd (omega arith)
fed_prefix b h (x ∷ []) ys parts lt = (refl, refl)
fed_prefix b h (x ∷ y ∷ xs) ys parts lt =
    let goes = settled_by b (h ++ (x ∷ [])) (parts (x ∷ []) (y ∷ xs) refl (omega arith)) in
    let behind = fed_prefix b (h ++ (x ∷ [])) (y ∷ xs) ys
    (λ front back is some. subst (IsPart b) (sym (append_assoc h (x ∷ []) front))
    (parts (x ∷ front) back (ap (λ (t : List ℕ). x ∷ t) is) some)) (omega arith) in
    let all = append_assoc h (x ∷ []) (y ∷ xs) in (
      ap (λ (s : State). fed s (y ∷ xs ++ ys)) goes ∙ behind.0 ∙ ap (λ (t : List ℕ). fed (settled b t) ys) all,
      ap (λ (s : State). 1 + taken s (y ∷ xs ++ ys)) goes ∙ ap (λ (n : ℕ). 1 + n) behind.1
          ∙ ap (λ (t : List ℕ). 1 + (length (y ∷ xs) + taken (settled b t) ys)) all ∙ omega arith,
    )

good_length : (n : ℕ) → 1 ≤ n → n ≤ 65536 → is_length n ≡ true
good_length n some most = grind (arith, some, most)

-- of a frame, what stands before its end
front_part : (b : Begun) (kind : ℕ) (behind front back : List ℕ) → kind < 256 → length behind ≤ most_behind
    → may_come b kind ≡ true
    → frame_text kind behind ≡ front ++ back → 0 < length back → IsPart b front
front_part b kind behind front back lt le may is some =
    let number : 4 ≤ length front → big_number 4 front ≡ 1 + length behind =
    λ long. sym (same_number front back long) ∙ ap (big_number 4) (sym is) ∙ number_in kind behind le in
    let len : length front + length back ≡ 5 + length behind =
    sym (length-append front back) ∙ ap (λ (t : List ℕ). length t) (sym is) ∙ length-frame kind behind in
    record {
      length_good = λ long. ap is_length (number long) ∙ good_length (1 + length behind) (omega arith) (omega arith);
      kind_good = λ long. ap (may_come b) (sym (same_kind front back long)
          ∙ ap (λ (t : List ℕ). slice_index t 4) (sym is) ∙ kind_in kind behind lt) ∙ may;
      short = λ long. let e = number long in omega arith;
    }

whole_settled : (b : Begun) (kind : ℕ) (behind : List ℕ) → kind < 256 → length behind ≤ most_behind
    → may_come b kind ≡ true
    → settled b (frame_text kind behind) ≡ after_frame b kind behind
unfolding settled
whole_settled b kind behind lt le may =
    let len = length-frame kind behind in
    let number = number_in kind behind le in
    let is_kind = kind_in kind behind lt in
    let text = frame_text kind behind in
    let good : is_length (big_number 4 text) ≡ true =
    ap is_length number ∙ good_length (1 + length behind) (omega arith) (omega arith) in
    let comes : may_come b (slice_index text 4) ≡ true = ap (may_come b) is_kind ∙ may in
    let a : nat_lt (length text) 4 ≡ false = le-ltb (length text) 4 (omega arith) in
    let c : nat_lt (length text) 5 ≡ false = le-ltb (length text) 5 (omega arith) in
    let d : nat_lt (length text) (4 + big_number 4 text) ≡ false =
    le-ltb (length text) (4 + big_number 4 text) (omega arith) in
    rw (a, good, c, comes, d)
    (ap (λ (k : ℕ). after_frame b k (drop 5 text)) is_kind ∙ ap (after_frame b kind) (behind_in kind behind))

pub frame_fed : (b : Begun) (kind : ℕ) (behind rest : List ℕ) → kind < 256 → length behind ≤ most_behind
    → may_come b kind ≡ true
    → (fed (Going b []) (frame_text kind behind ++ rest) ≡ fed (after_frame b kind behind) rest)
    × (taken (Going b []) (frame_text kind behind ++ rest)
    ≡ length (frame_text kind behind) + taken (after_frame b kind behind) rest)
frame_fed b kind behind rest lt le may =
    let text = frame_text kind behind in
    let moves = fed_prefix b [] text rest (λ front back is some. front_part b kind behind front back lt le may is some)
    (omega (arith, length-frame kind behind)) in
    let leads = whole_settled b kind behind lt le may in
    (moves.0 ∙ ap (λ (s : State). fed s rest) leads, moves.1 ∙ ap (λ (s : State). length text + taken s rest) leads)

-- ---- frames of a message

-- these bytes are a message, whatever follows
pub record Ends (s : State) (text : List ℕ) (message : Message) : Type 0 where
  pub leads : (rest : List ℕ) → fed s (text ++ rest) ≡ Waits message
  pub counts : (rest : List ℕ) → taken s (text ++ rest) ≡ length text

stays_waiting : (m : Message) (rest : List ℕ) → (fed (Waits m) rest ≡ Waits m) × (taken (Waits m) rest ≡ 0)
unfolding fed taken
stays_waiting m [] = (refl, refl)
stays_waiting m (x ∷ rest) = (refl, refl)

-- the last frame
last_frame : (b : Begun) (kind : ℕ) (behind : List ℕ) (m : Message) → kind < 256 → length behind ≤ most_behind
    → may_come b kind ≡ true → after_frame b kind behind ≡ Waits m
    → Ends (Going b []) (frame_text kind behind ++ []) m
last_frame b kind behind m lt le may is =
    let text = frame_text kind behind in
    record {
      leads = λ rest. ap (λ (t : List ℕ). fed (Going b []) (t ++ rest)) (append-nil text)
          ∙ (frame_fed b kind behind rest lt le may).0 ∙ ap (λ (s : State). fed s rest) is ∙ (stays_waiting m rest).0;
      counts = λ rest.
          let one = ap (λ (t : List ℕ). taken (Going b []) (t ++ rest)) (append-nil text)
          ∙ (frame_fed b kind behind rest lt le may).1 ∙ ap (λ (s : State). length text + taken s rest) is in
          let none = (stays_waiting m rest).1 in
          let len = ap (λ (t : List ℕ). length t) (append-nil text) in
          omega (arith, one, none, len);
    }

-- a frame, and others
more_frames : (b next : Begun) (kind : ℕ) (behind text : List ℕ) (m : Message) → kind < 256
    → length behind ≤ most_behind → may_come b kind ≡ true → after_frame b kind behind ≡ Going next []
    → Ends (Going next []) text m → Ends (Going b []) (frame_text kind behind ++ text) m
more_frames b next kind behind text m lt le may is others =
    let front = frame_text kind behind in
    record {
      leads = λ rest. ap (fed (Going b [])) (append_assoc front text rest)
          ∙ (frame_fed b kind behind (text ++ rest) lt le may).0 ∙ ap (λ (s : State). fed s (text ++ rest)) is
          ∙ others.leads rest;
      counts = λ rest.
          let one =
          ap (taken (Going b [])) (append_assoc front text rest) ∙ (frame_fed b kind behind (text ++ rest) lt le may).1
          ∙ ap (λ (s : State). length front + taken s (text ++ rest)) is in
          let more = others.counts rest in
          omega (arith, one, more, length-append front text);
    }

abbrev with_updates : Point → List Entry → Message
with_updates asked us = Reply (record { code = UpdateOk; asked = asked; updates = us })

update_leads : (asked : Point) (left : ℕ) (got : List Entry) (e : Entry) → IsSent e
    → after_frame (Updates asked left got) update_kind (sent e) ≡ after_update asked left got e
unfolding after_frame after_update_frame
update_leads asked left got e is =
    ap (λ (o : Option Entry). or_broken o (after_update asked left got)) (whole_again sent_field e is)

comes_update : (asked : Point) (left : ℕ) (got : List Entry) → may_come (Updates asked left got) update_kind ≡ true
unfolding may_come
comes_update asked left got = refl

updates_end : (asked : Point) (got : List Entry) (e : Entry) (us : List Entry) → IsSent e → AllByRecursion IsSent us
    → Ends (Going (Updates asked (length (e ∷ us)) got) []) (flat_map text_of (map update_frame (e ∷ us)))
    (with_updates asked (got ++ (e ∷ us)))
updates_end asked got e [] is others =
    last_frame (Updates asked 1 got) update_kind (sent e) (with_updates asked (got ++ (e ∷ []))) (omega arith)
    (sent_short e is) (comes_update asked 1 got) (update_leads asked 1 got e is)
updates_end asked got e (f ∷ us) is others =
    let left = length (e ∷ f ∷ us) in
    let no : eqb left 1 ≡ false = grind arith in
    let goes : after_update asked left got e ≡ Going (Updates asked (left - 1) (got ++ (e ∷ []))) [] =
    ap (λ (b : Bool).
    cond b (Waits (with_updates asked (got ++ (e ∷ [])))) (Going (Updates asked (left - 1) (got ++ (e ∷ []))) [])) no in
    let fewer : left - 1 ≡ length (f ∷ us) = omega arith in
    let next : after_frame (Updates asked left got) update_kind (sent e)
    ≡ Going (Updates asked (length (f ∷ us)) (got ++ (e ∷ []))) [] =
    update_leads asked left got e is ∙ goes ∙ ap (λ (n : ℕ). Going (Updates asked n (got ++ (e ∷ []))) []) fewer in
    let rest = updates_end asked (got ++ (e ∷ [])) f us others.0 others.1 in
    let whole : Ends (Going (Updates asked (length (f ∷ us)) (got ++ (e ∷ []))) [])
    (flat_map text_of (map update_frame (f ∷ us))) (with_updates asked (got ++ (e ∷ f ∷ us))) =
    subst (λ (t : List Entry). Ends (Going (Updates asked (length (f ∷ us)) (got ++ (e ∷ []))) [])
    (flat_map text_of (map update_frame (f ∷ us))) (with_updates asked t)) (append_assoc got (e ∷ []) (f ∷ us)) rest in
    more_frames (Updates asked left got) (Updates asked (length (f ∷ us)) (got ++ (e ∷ []))) update_kind (sent e)
    (flat_map text_of (map update_frame (f ∷ us))) (with_updates asked (got ++ (e ∷ f ∷ us)))
    (omega arith) (sent_short e is) (comes_update asked left got) next whole

-- a reply
head_leads : (h : Head) → IsHead h → after_frame Nothing reply_kind (head_text h) ≡ after_head h
unfolding after_frame after_first_frame
head_leads h is = ap (λ (o : Option Head). or_broken o after_head) (whole_again head_field h is)

comes_head : may_come Nothing reply_kind ≡ true
unfolding may_come
comes_head = refl

full_head : (code : ReplyCode) (asked : Point) (e : Entry) (us : List Entry) → MayCome code (e ∷ us)
    → (code ≡ UpdateOk) × (after_head (record { code = code; asked = asked; count = length (e ∷ us) })
    ≡ Going (Updates asked (length (e ∷ us)) []) [])
full_head UpdateOk asked e us may =
    let no : eqb (length (e ∷ us)) 0 ≡ false = grind arith in (
      refl,
      ap (λ (b : Bool). cond b (Waits (Reply (record { code = UpdateOk; asked = asked; updates = [] })))
          (Going (Updates asked (length (e ∷ us)) []) [])) no,
    )
full_head FullResyncNeeded asked e us may = absurd cc
full_head Busy asked e us may = absurd cc
full_head Nil asked e us may = absurd cc
full_head PermDenied asked e us may = absurd cc

reply_ends : (r : ReplyParts) → IsHead (head_of r) → IsReply r.code r.updates
    → Ends fresh (frame_text reply_kind (head_text (head_of r)) ++ flat_map text_of (map update_frame r.updates))
    (Reply r)
reply_ends r head is =
    by_updates r.code r.asked r.updates head is.may_come (recursion_from_All IsSent r.updates is.sent)
  where
    by_updates : (code : ReplyCode) (asked : Point) (us : List Entry)
        → IsHead (record { code = code; asked = asked; count = length us }) → MayCome code us → AllByRecursion IsSent us
        → Ends fresh (frame_text reply_kind (head_text (record { code = code; asked = asked; count = length us }))
        ++ flat_map text_of (map update_frame us)) (Reply (record { code = code; asked = asked; updates = us }))
    by_updates code asked [] head may all =
        let h : Head = record { code = code; asked = asked; count = 0 } in
        last_frame Nothing reply_kind (head_text h) (Reply (record { code = code; asked = asked; updates = [] }))
        (omega arith) (head_short h) comes_head (head_leads h head)
    by_updates code asked (e ∷ us) head may all =
        let h : Head = record { code = code; asked = asked; count = length (e ∷ us) } in
        let full = full_head code asked e us may in
        let rest = updates_end asked [] e us all.0 all.1 in
        let named = subst (λ (c : ReplyCode). Ends (Going (Updates asked (length (e ∷ us)) []) [])
        (flat_map text_of (map update_frame (e ∷ us))) (Reply (record { code = c; asked = asked; updates = e ∷ us })))
        (sym full.0) rest in
        more_frames Nothing (Updates asked (length (e ∷ us)) []) reply_kind (head_text h)
        (flat_map text_of (map update_frame (e ∷ us))) (Reply (record { code = code; asked = asked; updates = e ∷ us }))
        (omega arith) (head_short h) comes_head (head_leads h head ∙ full.1) named

-- ---- a dump

total_leads : (text : List ℕ) → length text < 2 ^ 64
    → after_dump_frame text total_kind (big 8 (length text)) ≡ Waits (DumpText text)
unfolding after_dump_frame
total_leads text lt =
    let same : eqb (length text) (length text) ≡ true = grind arith in
    ap (λ (o : Option ℕ). or_broken o (after_total text)) (whole_again (big_field 8) (length text) (omega (arith, lt)))
    ∙ ap (λ (b : Bool). cond b (Waits (DumpText text)) Broken) same

piece_leads : (text piece : List ℕ) → 0 < length piece
    → after_dump_frame text piece_kind piece ≡ Going (Pieces (text ++ piece)) []
unfolding after_dump_frame
piece_leads text piece some =
    let no : eqb (length piece) 0 ≡ false = grind arith in
    ap (λ (b : Bool). cond b Broken (Going (Pieces (text ++ piece)) [])) no

-- where a dump so far may go on
record GoesOn (b : Begun) (text : List ℕ) : Type 0 where
  piece_comes : may_come b piece_kind ≡ true
  total_comes : may_come b total_kind ≡ true
  piece_is : (behind : List ℕ) → after_frame b piece_kind behind ≡ after_dump_frame text piece_kind behind
  total_is : (behind : List ℕ) → after_frame b total_kind behind ≡ after_dump_frame text total_kind behind

first_goes : GoesOn Nothing []
unfolding may_come after_frame after_first_frame
first_goes = record { piece_comes = refl; total_comes = refl; piece_is = λ behind. refl; total_is = λ behind. refl }

pieces_go : (text : List ℕ) → GoesOn (Pieces text) text
unfolding may_come after_frame
pieces_go text = record { piece_comes = refl; total_comes = refl; piece_is = λ behind. refl; total_is = λ behind. refl }

dump_ends : (b : Begun) (text : List ℕ) (pieces : List (List ℕ)) (all : List ℕ) → GoesOn b text
    → AllByRecursion IsPiece pieces → text ++ flat_map (λ piece. piece) pieces ≡ all → length all < 2 ^ 64
    → Ends (Going b [])
    (flat_map text_of (map (frame piece_kind) pieces ++ (frame total_kind (big 8 (length all)) ∷ []))) (DumpText all)
dump_ends b text [] all goes are whole lt =
    let is : text ≡ all = sym (append-nil text) ∙ whole in
    let leads : after_dump_frame text total_kind (big 8 (length all)) ≡ Waits (DumpText all) =
    ap (λ (t : List ℕ). after_dump_frame t total_kind (big 8 (length all))) is ∙ total_leads all lt in
    last_frame b total_kind (big 8 (length all)) (DumpText all) (omega arith)
    (omega (arith, length-big 8 (length all))) goes.total_comes (goes.total_is (big 8 (length all)) ∙ leads)
dump_ends b text (piece ∷ pieces) all goes are whole lt =
    let rest = dump_ends (Pieces (text ++ piece)) (text ++ piece) pieces all (pieces_go (text ++ piece)) are.1
    (append_assoc text piece (flat_map (λ p. p) pieces) ∙ whole) lt in
    more_frames b (Pieces (text ++ piece)) piece_kind piece
    (flat_map text_of (map (frame piece_kind) pieces ++ (frame total_kind (big 8 (length all)) ∷ []))) (DumpText all)
    (omega arith) are.0.1 goes.piece_comes (goes.piece_is piece ∙ piece_leads text piece are.0.0) rest

-- ---- messages

hello_ends : (name : List ℕ) → length name ≤ most_behind → Ends fresh (frame_text hello_kind name ++ []) (Hello name)
unfolding may_come after_frame after_first_frame
hello_ends name le = last_frame Nothing hello_kind name (Hello name) (omega arith) le refl refl

poll_ends : (asked : Point) → IsPoint asked → Ends fresh (frame_text poll_kind (point asked) ++ []) (Poll asked)
unfolding may_come after_frame after_first_frame
poll_ends asked is =
    last_frame Nothing poll_kind (point asked) (Poll asked) (omega arith) (point_short asked) refl
    (ap (λ (o : Option Point). or_broken o (λ p. Waits (Poll p))) (whole_again point_field asked is))

ask_ends : Ends fresh (frame_text ask_kind [] ++ []) Ask
unfolding may_come after_frame after_first_frame
ask_ends = last_frame Nothing ask_kind [] Ask (omega arith) (omega arith) refl refl

frames_end : (frames : List Frame) (m : Message) → IsMessage m → AreFrames frames m
    → Ends fresh (flat_map text_of frames) m
frames_end frames (Hello name) is are =
    subst (λ (fs : List Frame). Ends fresh (flat_map text_of fs) (Hello name)) (sym are) (hello_ends name is)
frames_end frames (Poll asked) is are =
    subst (λ (fs : List Frame). Ends fresh (flat_map text_of fs) (Poll asked)) (sym are) (poll_ends asked is)
frames_end frames Ask is are = subst (λ (fs : List Frame). Ends fresh (flat_map text_of fs) Ask) (sym are) ask_ends
frames_end frames (Reply r) is are =
    subst (λ (fs : List Frame). Ends fresh (flat_map text_of fs) (Reply r)) (sym are) (reply_ends r is.0 is.1)
frames_end frames (DumpText text) is are =
    subst (λ (fs : List Frame). Ends fresh (flat_map text_of fs) (DumpText text)) (sym are.frames_are)
    (dump_ends Nothing [] are.pieces text first_goes (recursion_from_All IsPiece are.pieces are.are) are.whole is)

pub message_ends : (text : List ℕ) (m : Message) → Spells text m → Ends fresh text m
message_ends text m spells =
    subst (λ (t : List ℕ). Ends fresh t m) (sym spells.whole) (frames_end spells.frames m spells.is_message spells.are)

pub not_broken : (text rest : List ℕ) (m : Message) → fed fresh text ≡ Broken → Spells (text ++ rest) m → ⊥
not_broken text rest m broken spells =
    let ends = message_ends (text ++ rest) m spells in
    let waits : fed fresh (text ++ rest) ≡ Waits m = ap (fed fresh) (sym (append-nil (text ++ rest))) ∙ ends.leads [] in
    let stays : fed fresh (text ++ rest) ≡ Broken =
    fed_parts fresh text rest ∙ ap (λ (s : State). fed s rest) broken ∙ fed_broken rest in
    absurd (differ m (sym stays ∙ waits))
  where
    differ : (m : Message) → Broken ≡ Waits m → ⊥
    differ m e = absurd cc

pub own_text : (text : List ℕ) (a b : Message) → Spells text a → Spells text b → a ≡ b
own_text text a b one other =
    same_Some a b (ap waiting_in (sym ((message_ends text a one).leads []) ∙ (message_ends text b other).leads []))
