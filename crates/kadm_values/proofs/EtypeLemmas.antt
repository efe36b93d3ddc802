-- The words of encryption types are those of the table, and what is read of a list is what it spells.
use Rattle.std.proofs.Common.{◌≡◌, ◌⊎◌, ℕ, suc, ◌+◌, ◌-◌, ◌<◌, ◌≤◌, Bool, true, false, List, [], ◌∷◌, ◌++◌, length}
use Rattle.std.proofs.Common.{drop, take, Option, Some, None, option_map, map, get_or, Bor, cond, inl, inr, refl}
use Rattle.std.proofs.Common.{sym, ap, subst, ◌∙◌, append_assoc, append-nil, length-append, take-append-drop, arith}
use Rattle.std.specs.Prelude.{IfSome}
use Rattle.std.specs.List.{All, AllZip, Contains, find, slice_split}
use Rattle.std.specs.Str.{bytes_eq}
use Rattle.std.proofs.lemmas.List.{drop-map, drop_all, drop_at, drop_more, take_at}
use Rattle.std.proofs.lemmas.List.Elements.{All-cons, All-contains, All-nil}
use Rattle.std.proofs.lemmas.Slice.Eq.{bytes_eq-Decides}
use Rattle.kadm_values.specs.EtypeWords.{EtypeRow, SpellsEtype, SpellsEtypes, SpellsListed}
use Rattle.kadm_values.specs.EtypeWords.{all_listed, are_once, before_listed, etype_named, etype_rows}
use Rattle.kadm_values.specs.EtypeWords.{etypes_in, is_comma, listed_in, normal_salt, without_salt}
use Rattle.kdb_base.specs.declared.keys.Etype.{Etype}

-- ---- words

record FoundIn (rows : List EtypeRow) (word : List ℕ) (row : EtypeRow) : Type 0 where
  there : Contains rows row
  word_is : row.word ≡ word

found_by : (r : EtypeRow) (rows : List EtypeRow) (word : List ℕ) (row : EtypeRow) (b : Bool) → bytes_eq r.word word ≡ b
    → cond b (Some r) (find (λ other. bytes_eq other.word word) rows) ≡ Some row
    → (find (λ other. bytes_eq other.word word) rows ≡ Some row → FoundIn rows word row) → FoundIn (r ∷ rows) word row
found_by r rows word row true is e behind =
    let same : r ≡ row = cc in
    subst (λ (x : EtypeRow). FoundIn (r ∷ rows) word x) same
    (record { there = (0, omega arith, refl); word_is = (bytes_eq-Decides r.word word).0 is })
found_by r rows word row false is e behind =
    let f = behind e in
    record { there = (suc f.there.0, omega (arith, f.there.1), f.there.2); word_is = f.word_is }

found_in : (rows : List EtypeRow) (word : List ℕ) (row : EtypeRow)
    → find (λ other. bytes_eq other.word word) rows ≡ Some row → FoundIn rows word row
found_in [] word row e = absurd (cc)
found_in (r ∷ rows) word row e = found_by r rows word row (bytes_eq r.word word) refl e (found_in rows word row)

named_by : (word : List ℕ) (etype : Etype) (found : Option EtypeRow)
    → find (λ row. bytes_eq row.word word) etype_rows ≡ found → option_map (λ row. row.etype) found ≡ Some etype
    → SpellsEtype word etype
named_by word etype None is e = absurd (cc)
named_by word etype (Some row) is e =
    let f = found_in etype_rows word row is in
    let type_is : row.etype ≡ etype = cc in
    subst (λ (t : Etype). SpellsEtype word t) type_is
    (subst (λ (w : List ℕ). SpellsEtype w row.etype) f.word_is f.there)

pub named_spelled : (word : List ℕ) (etype : Etype) → etype_named word ≡ Some etype → SpellsEtype word etype
unfolding etype_named
named_spelled word etype e = named_by word etype (find (λ row. bytes_eq row.word word) etype_rows) refl e

-- each word stands once in the table, and none ends with the salt
unfoldable Each : (EtypeRow → Type 0) → List EtypeRow → Type 0
Each P [] = Unit {0}
Each P (row ∷ rows) = P row × Each P rows

each_all : (P : EtypeRow → Type 0) (rows : List EtypeRow) → Each P rows → All P rows
unfolding Each
each_all P [] h = All-nil P
each_all P (row ∷ rows) h = All-cons P row rows h.0 (each_all P rows h.1)

unfoldable is_named : EtypeRow → Type 0
is_named row = etype_named row.word ≡ Some row.etype

unfoldable is_bare : EtypeRow → Type 0
is_bare row = without_salt row.word ≡ row.word

each_named : Each is_named etype_rows
unfolding Each is_named etype_named etype_rows
each_named = (refl, (refl, (refl, (refl, (refl, (refl, (refl, (refl, (refl, (refl, tt))))))))))

each_bare : Each is_bare etype_rows
unfolding Each is_bare without_salt etype_rows
each_bare = (refl, (refl, (refl, (refl, (refl, (refl, (refl, (refl, (refl, (refl, tt))))))))))

pub spelled_named : (word : List ℕ) (etype : Etype) → SpellsEtype word etype → etype_named word ≡ Some etype
unfolding is_named
spelled_named word etype h =
    All-contains is_named etype_rows (record { word = word; etype = etype }) (each_all is_named etype_rows each_named) h

spelled_bare : (word : List ℕ) (etype : Etype) → SpellsEtype word etype → without_salt word ≡ word
unfolding is_bare
spelled_bare word etype h =
    All-contains is_bare etype_rows (record { word = word; etype = etype }) (each_all is_bare etype_rows each_bare) h

pub if_named : (word : List ℕ) (found : Option Etype) → found ≡ etype_named word
    → IfSome found (λ etype. SpellsEtype word etype)
if_named word None e = tt
if_named word (Some etype) e = named_spelled word etype (sym e)

-- ---- items of a list

salted : (word : List ℕ) → without_salt (word ++ normal_salt) ≡ word
unfolding without_salt
salted word =
    let count : length (word ++ normal_salt) - 7 ≡ length word = omega (arith, length-append word normal_salt) in
    rw (count, drop_at word normal_salt (length word) refl) (take_at word normal_salt (length word) refl)

unsalted : (item : List ℕ) (b : Bool) → bytes_eq (drop (length item - 7) item) normal_salt ≡ b
    → (item ≡ cond b (take (length item - 7) item) item)
    ⊎ (item ≡ cond b (take (length item - 7) item) item ++ normal_salt)
unsalted item true is =
    inr (sym (take-append-drop (length item - 7) item) ∙ ap (λ (salt : List ℕ). take (length item - 7) item ++ salt)
    ((bytes_eq-Decides (drop (length item - 7) item) normal_salt).0 is))
unsalted item false is = inl refl

with_or_without : (item : List ℕ) → (item ≡ without_salt item) ⊎ (item ≡ without_salt item ++ normal_salt)
unfolding without_salt
with_or_without item = unsalted item (bytes_eq (drop (length item - 7) item) normal_salt) refl

item_spelled : (item : List ℕ) (etype : Etype) → listed_in item ≡ Some etype → SpellsListed item etype
unfolding listed_in
item_spelled item etype e = record {
  word = without_salt item;
  spelled = named_spelled (without_salt item) etype e;
  item_is = with_or_without item;
}

item_bare : (item word : List ℕ) (etype : Etype) → SpellsEtype word etype → (item ≡ word) ⊎ (item ≡ word ++ normal_salt)
    → without_salt item ≡ word
item_bare item word etype h (inl is) = ap without_salt is ∙ spelled_bare word etype h
item_bare item word etype h (inr is) = ap without_salt is ∙ salted word

item_listed : (item : List ℕ) (etype : Etype) → SpellsListed item etype → listed_in item ≡ Some etype
unfolding listed_in
item_listed item etype h =
    ap etype_named (item_bare item h.word etype h.spelled h.item_is) ∙ spelled_named h.word etype h.spelled

-- ---- lists

cons_spelled : (item : List ℕ) (items : List (List ℕ)) (etypes : List Etype) (found : Option Etype)
    (rest : Option (List Etype)) → listed_in item ≡ found → all_listed items ≡ rest
    → before_listed found rest ≡ Some etypes
    → ((es : List Etype) → all_listed items ≡ Some es → AllZip SpellsListed items es)
    → AllZip SpellsListed (item ∷ items) etypes
cons_spelled item items etypes None rest is behind e each = absurd (cc)
cons_spelled item items etypes (Some etype) None is behind e each = absurd (cc)
cons_spelled item items etypes (Some etype) (Some others) is behind e each =
    let same : etype ∷ others ≡ etypes = cc in
    subst (λ (es : List Etype). AllZip SpellsListed (item ∷ items) es) same (
      item_spelled item etype is,
      each others behind,
    )

nothing_spelled : (etypes : List Etype) → Some [] ≡ Some etypes → AllZip SpellsListed [] etypes
nothing_spelled [] e = tt
nothing_spelled (etype ∷ etypes) e = absurd (cc)

all_spelled : (items : List (List ℕ)) (etypes : List Etype) → all_listed items ≡ Some etypes
    → AllZip SpellsListed items etypes
unfolding all_listed
all_spelled [] etypes e = nothing_spelled etypes e
all_spelled (item ∷ items) etypes e =
    cons_spelled item items etypes (listed_in item) (all_listed items) refl refl e (all_spelled items)

spelled_all : (items : List (List ℕ)) (etypes : List Etype) → AllZip SpellsListed items etypes
    → all_listed items ≡ Some etypes
unfolding all_listed
spelled_all [] [] h = refl
spelled_all [] (etype ∷ etypes) h = absurd h
spelled_all (item ∷ items) [] h = absurd h
spelled_all (item ∷ items) (etype ∷ etypes) h = rw (item_listed item etype h.0, spelled_all items etypes h.1) refl

once_by : (text : List ℕ) (etypes es : List Etype) (b : Bool) → all_listed (slice_split is_comma text) ≡ Some es
    → are_once es ≡ b → cond b (Some es) None ≡ Some etypes → SpellsEtypes text etypes
once_by text etypes es true all once e =
    let same : es ≡ etypes = cc in
    subst (λ (xs : List Etype). SpellsEtypes text xs) same
    (record { each = all_spelled (slice_split is_comma text) es all; once = once })
once_by text etypes es false all once e = absurd (cc)

list_by : (text : List ℕ) (etypes : List Etype) (found : Option (List Etype))
    → all_listed (slice_split is_comma text) ≡ found → etypes_in text ≡ Some etypes → SpellsEtypes text etypes
unfolding etypes_in
list_by text etypes None all e =
    let none : None ≡ Some etypes = rw all at e in
    absurd (cc)
list_by text etypes (Some es) all e = once_by text etypes es (are_once es) all refl (rw all at e)

pub list_spelled : (text : List ℕ) (etypes : List Etype) → etypes_in text ≡ Some etypes → SpellsEtypes text etypes
list_spelled text etypes e = list_by text etypes (all_listed (slice_split is_comma text)) refl e

pub spelled_list : (text : List ℕ) (etypes : List Etype) → SpellsEtypes text etypes → etypes_in text ≡ Some etypes
unfolding etypes_in
spelled_list text etypes h = rw (spelled_all (slice_split is_comma text) etypes h.each, h.once) refl

-- what is said of the list that is read, where one is
pub if_listed : {V : Type 0} (items : V → List Etype) (text : List ℕ) (read : Option V)
    → option_map items read ≡ etypes_in text → IfSome read (λ v. SpellsEtypes text (items v))
if_listed items text None e = tt
if_listed items text (Some v) e = list_spelled text (items v) (sym e)

-- ---- items that are read one by one

one_listed : (etype : Etype) (done : List Etype) (others : Option (List Etype))
    → option_map (λ rest. (done ++ etype ∷ []) ++ rest) others
    ≡ option_map (λ rest. done ++ rest) (before_listed (Some etype) others)
one_listed etype done None = refl
one_listed etype done (Some rest) = ap Some (append_assoc done (etype ∷ []) rest)

all_more : (item : List ℕ) (items : List (List ℕ)) (etype : Etype) → listed_in item ≡ Some etype
    → all_listed (item ∷ items) ≡ before_listed (Some etype) (all_listed items)
unfolding all_listed
all_more item items etype is = rw is refl

-- one more item is read
pub listed_more : (items behind : List (List ℕ)) (item : List ℕ) (etype : Etype) (done new : List Etype)
    (whole : Option (List Etype)) → items ≡ item ∷ behind → Some etype ≡ listed_in item
    → new ≡ done ++ etype ∷ [] → option_map (λ rest. done ++ rest) (all_listed items) ≡ whole
    → option_map (λ rest. new ++ rest) (all_listed behind) ≡ whole
listed_more items behind item etype done new whole is listed added e =
    ap (λ (d : List Etype). option_map (λ rest. d ++ rest) (all_listed behind)) added
    ∙ one_listed etype done (all_listed behind)
    ∙ ap (option_map (λ rest. done ++ rest)) (sym (all_more item behind etype (sym listed)) ∙ ap all_listed (sym is))
    ∙ e

none_here : (item : List ℕ) (items : List (List ℕ)) → listed_in item ≡ None → all_listed (item ∷ items) ≡ None
unfolding all_listed
none_here item items is = rw is refl

-- an item that is no type
pub listed_not : (items behind : List (List ℕ)) (item : List ℕ) (done : List Etype) (whole : Option (List Etype))
    → items ≡ item ∷ behind → None ≡ listed_in item
    → option_map (λ rest. done ++ rest) (all_listed items) ≡ whole → None ≡ whole
listed_not items behind item done whole is listed e =
    ap (option_map (λ rest. done ++ rest)) (sym (none_here item behind (sym listed)) ∙ ap all_listed (sym is)) ∙ e

-- the text at a place, and those behind it
pub text_here : (items : List (Bor (List ℕ))) (i : ℕ) (d : Bor (List ℕ)) → i < length items
    → drop i (map (λ item. item.now) items) ≡ (get_or items i d).now ∷ drop (i + 1) (map (λ item. item.now) items)
text_here items i d lt =
    drop-map (λ (item : Bor (List ℕ)). item.now) i items
    ∙ ap (map (λ (item : Bor (List ℕ)). item.now)) (drop_more items i d lt)
    ∙ ap (λ (rest : List (List ℕ)). (get_or items i d).now ∷ rest)
    (sym (drop-map (λ (item : Bor (List ℕ)). item.now) (i + 1) items))

pub listed_end : (items : List (Bor (List ℕ))) (i : ℕ) (done : List Etype) (whole : Option (List Etype))
    → length items ≤ i
    → option_map (λ rest. done ++ rest) (all_listed (drop i (map (λ item. item.now) items))) ≡ whole → Some done ≡ whole
unfolding all_listed
listed_end items i done whole le e =
    let none : drop i (map (λ (item : Bor (List ℕ)). item.now) items) ≡ [] =
    drop-map (λ (item : Bor (List ℕ)). item.now) i items
    ∙ ap (map (λ (item : Bor (List ℕ)). item.now)) (drop_all i items le) in
    ap Some (sym (append-nil done))
    ∙ ap (λ (rest : List (List ℕ)). option_map (λ more. done ++ more) (all_listed rest)) (sym none) ∙ e
