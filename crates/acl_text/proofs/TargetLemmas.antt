-- What targets match.
use Rattle.std.proofs.Common.{◌≡◌, ℕ, suc, ◌+◌, ◌<◌, ◌≤◌, ◌&&◌, ◌||◌, Bool, true, false, Some, None, List}
use Rattle.std.proofs.Common.{[], ◌∷◌, length, drop, map, get_or, inl, inr, refl, sym, ap, ◌∙◌, arith}
use Rattle.std.specs.Str.{bytes_eq}
use Rattle.std.proofs.lemmas.Bool.{and_parts, and_from, and_right}
use Rattle.std.proofs.lemmas.List.{drop_all}
use Rattle.std.proofs.lemmas.Slice.Eq.{bytes_eq-Decides}
use Rattle.acl_text.specs.Patterns.{meant, meant_target, part_matches, parts_match, pattern_matches}
use Rattle.princ_name.specs.Kinds.{is_any}
use Rattle.princ_name.specs.Names.{NameParts}
use Rattle.princ_name.specs.Patterns.{Matches, MatchesPart, MatchesParts, realm_of}
use Rattle.princ_name.specs.Shape.{PatternShape, Every, Parts}
use Rattle.princ_name.specs.declared.parts.Part.{Part}
use Rattle.princ_name.proofs.Matching.{AtPlace, at_place}

-- ---- parts one by one

pub other_number : (f : Part → Part) (parts : List Part) (texts : List (List ℕ)) → (length parts ≡ length texts → ⊥)
    → false ≡ parts_match (map f parts) texts
unfolding parts_match
other_number f [] [] other = absurd (other refl)
other_number f [] (text ∷ texts) other = refl
other_number f (part ∷ parts) [] other = refl
other_number f (part ∷ parts) (text ∷ texts) other =
    sym (and_right (part_matches (f part) text) (parts_match (map f parts) texts)
    (sym (other_number f parts texts (λ same. other (ap suc same)))))

match-cons : (f : Part → Part) (part : Part) (parts : List Part) (text : List ℕ) (texts : List (List ℕ))
    → parts_match (map f (part ∷ parts)) (text ∷ texts)
    ≡ (part_matches (f part) text && parts_match (map f parts) texts)
unfolding parts_match
match-cons f part parts text texts = refl

match_here : (f : Part → Part) (parts : List Part) (texts : List (List ℕ)) (i : ℕ) (part : Part) (text : List ℕ)
    → AtPlace parts texts i part text
    → parts_match (map f (drop i parts)) (drop i texts)
    ≡ (part_matches (f part) text && parts_match (map f (drop (i + 1) parts)) (drop (i + 1) texts))
match_here f parts texts i part text at =
    ap (λ (ps : List Part). parts_match (map f ps) (drop i texts)) at.part_is
    ∙ ap (λ (ts : List (List ℕ)). parts_match (map f (part ∷ drop (i + 1) parts)) ts) at.text_is
    ∙ match-cons f part (drop (i + 1) parts) text (drop (i + 1) texts)

-- the parts behind one that matches, and one that does not
pub match_on : (f : Part → Part) (parts : List Part) (texts : List (List ℕ)) (i : ℕ) (part : Part) (item text : List ℕ)
    → i < length parts
    → (length parts ≡ length texts) → part ≡ get_or parts i part → item ≡ get_or texts i item → text ≡ item
    → true ≡ part_matches (f part) text
    → parts_match (map f (drop (i + 1) parts)) (drop (i + 1) texts) ≡ parts_match (map f (drop i parts)) (drop i texts)
match_on f parts texts i part item text lt count part_is item_is same matched =
    let at = at_place parts texts i part item text lt (omega arith) part_is item_is same in
    sym (match_here f parts texts i part text at
    ∙ ap (λ (b : Bool). b && parts_match (map f (drop (i + 1) parts)) (drop (i + 1) texts)) (sym matched))

pub match_not : (f : Part → Part) (parts : List Part) (texts : List (List ℕ)) (i : ℕ) (part : Part) (item text : List ℕ)
    → i < length parts
    → (length parts ≡ length texts) → part ≡ get_or parts i part → item ≡ get_or texts i item → text ≡ item
    → false ≡ part_matches (f part) text
    → false ≡ parts_match (map f (drop i parts)) (drop i texts)
match_not f parts texts i part item text lt count part_is item_is same unmatched =
    let at = at_place parts texts i part item text lt (omega arith) part_is item_is same in
    sym (match_here f parts texts i part text at
    ∙ ap (λ (b : Bool). b && parts_match (map f (drop (i + 1) parts)) (drop (i + 1) texts)) (sym unmatched))

none_match : (f : Part → Part) → true ≡ parts_match (map f []) []
unfolding parts_match
none_match f = refl

pub match_end : (f : Part → Part) (parts : List Part) (texts : List (List ℕ)) (i : ℕ) → length parts ≤ i
    → (length parts ≡ length texts)
    → true ≡ parts_match (map f (drop i parts)) (drop i texts)
match_end f parts texts i le count =
    none_match f
    ∙ ap (λ (ps : List Part). parts_match (map f ps) []) (sym (drop_all i parts le))
    ∙ ap (λ (ts : List (List ℕ)). parts_match (map f (drop i parts)) ts) (sym (drop_all i texts (omega arith)))

-- ---- whole patterns

pub whole_matches : (f : PatternShape) (client name : NameParts) (target : PatternShape) (parts : List Part)
    (realm other : Part) (a b : Bool)
    → Some other ≡ realm_of target → target ≡ Parts parts realm
    → a ≡ parts_match (map (meant f client) parts) name.parts → b ≡ part_matches other name.realm
    → (a && b) ≡ pattern_matches (meant_target f client target) name
unfolding pattern_matches
whole_matches f client name Every parts realm other a b realm_is is ha hb = absurd (cc)
whole_matches f client name (Parts ps r) parts realm other a b realm_is is ha hb =
    let same : parts ≡ ps = cc in
    let own : other ≡ r = cc in
    ap (λ (x : Bool). x && b) (ha ∙ ap (λ (qs : List Part). parts_match (map (meant f client) qs) name.parts) same)
    ∙ ap (λ (y : Bool). parts_match (map (meant f client) ps) name.parts && y)
    (hb ∙ ap (λ (q : Part). part_matches q name.realm) own)

pub every_target : (f : PatternShape) (client name : NameParts) (target : PatternShape) → None ≡ realm_of target
    → true ≡ pattern_matches (meant_target f client target) name
unfolding pattern_matches
every_target f client name Every is = refl
every_target f client name (Parts parts realm) is = absurd (cc)

-- ---- the test of patterns

matched_part : (b : Bool) (part : Part) (text : List ℕ) → is_any part ≡ b → (b || bytes_eq part.text text) ≡ true
    → MatchesPart part text
matched_part true part text is h = inl is
matched_part false part text is h = inr ((bytes_eq-Decides part.text text).0 h)

or_true : (a b : Bool) → b ≡ true → (a || b) ≡ true
or_true true b is = refl
or_true false b is = is

part_tested : (part : Part) (text : List ℕ) → MatchesPart part text → part_matches part text ≡ true
part_tested part text (inl wild) = ap (λ (b : Bool). b || bytes_eq part.text text) wild
part_tested part text (inr same) =
    or_true (is_any part) (bytes_eq part.text text) ((bytes_eq-Decides part.text text).1 same)

parts_matched : (parts : List Part) (texts : List (List ℕ)) → parts_match parts texts ≡ true → MatchesParts parts texts
unfolding parts_match MatchesParts
parts_matched [] [] h = tt
parts_matched [] (text ∷ texts) h = absurd (cc)
parts_matched (part ∷ parts) [] h = absurd (cc)
parts_matched (part ∷ parts) (text ∷ texts) h =
    let both = and_parts (part_matches part text) (parts_match parts texts) h in
    (matched_part (is_any part) part text refl both.0, parts_matched parts texts both.1)

parts_tested : (parts : List Part) (texts : List (List ℕ)) → MatchesParts parts texts → parts_match parts texts ≡ true
unfolding parts_match MatchesParts
parts_tested [] [] h = refl
parts_tested [] (text ∷ texts) h = absurd h
parts_tested (part ∷ parts) [] h = absurd h
parts_tested (part ∷ parts) (text ∷ texts) h = and_from (part_matches part text) (parts_match parts texts)
    (part_tested part text h.0) (parts_tested parts texts h.1)

pub pattern_matched : (pattern : PatternShape) (name : NameParts) → pattern_matches pattern name ≡ true
    → Matches pattern name
unfolding pattern_matches Matches
pattern_matched Every name h = tt
pattern_matched (Parts parts realm) name h =
    let both = and_parts (parts_match parts name.parts) (part_matches realm name.realm) h in
    (parts_matched parts name.parts both.0, matched_part (is_any realm) realm name.realm refl both.1)

pub pattern_tested : (pattern : PatternShape) (name : NameParts) → Matches pattern name
    → pattern_matches pattern name ≡ true
unfolding pattern_matches Matches
pattern_tested Every name h = refl
pattern_tested (Parts parts realm) name h =
    and_from (parts_match parts name.parts) (part_matches realm name.realm) (parts_tested parts name.parts h.0)
    (part_tested realm name.realm h.1)

-- whether the code's match is the test's
pub same_test : (b c : Bool) (pattern : PatternShape) (name : NameParts) → pattern_matches pattern name ≡ c
    → (b ≡ true → Matches pattern name) → (Matches pattern name → b ≡ true) → b ≡ pattern_matches pattern name
same_test true c pattern name is forth back = sym (pattern_tested pattern name (forth refl))
same_test false true pattern name is forth back = absurd (cc (back (pattern_matched pattern name is)))
same_test false false pattern name is forth back = sym is
