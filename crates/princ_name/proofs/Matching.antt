-- Patterns and names, part by part.
use Rattle.std.proofs.Common.{◌≡◌, ℕ, zero, suc, ◌+◌, ◌<◌, ◌≤◌, true, false, Option, Some, List}
use Rattle.std.proofs.Common.{[], ◌∷◌, ◌++◌, length, take, drop, get_or, slice_set, refl, sym}
use Rattle.std.proofs.Common.{ap, subst, ◌∙◌, append-nil, length-append, if◌then◌else◌, arith}
use Rattle.std.proofs.lemmas.List.{drop_more, drop_all, take_more, take_all, length-map, length-take-le}
use Rattle.princ_name.specs.Found.{IsFound}
use Rattle.princ_name.specs.Kinds.{is_any}
use Rattle.princ_name.specs.Patterns.{IsWithin, MatchesPart, MatchesParts, Matches, first_of, hits_of, wild_places}
use Rattle.princ_name.specs.Names.{NameParts}
use Rattle.princ_name.specs.Shape.{PatternShape, Every, Parts}
use Rattle.princ_name.specs.declared.parts.Part.{Part}
use Rattle.princ_name.specs.declared.patterns.Found.{Found}

drop_part : (xs : List Part) (i : ℕ) (item : Part) → i < length xs → item ≡ get_or xs i item
    → drop i xs ≡ item ∷ drop (i + 1) xs
drop_part xs i item lt is = drop_more xs i item lt ∙ ap (λ (x : Part). x ∷ drop (i + 1) xs) (sym is)

drop_text : (xs : List (List ℕ)) (i : ℕ) (item text : List ℕ) → i < length xs → item ≡ get_or xs i item → text ≡ item
    → drop i xs ≡ text ∷ drop (i + 1) xs
drop_text xs i item text lt is same =
    drop_more xs i item lt ∙ ap (λ (x : List ℕ). x ∷ drop (i + 1) xs) (sym (same ∙ is))

cons_in : (part : Part) (text : List ℕ) (ps : List Part) (ts : List (List ℕ)) → MatchesParts (part ∷ ps) (text ∷ ts)
    → MatchesPart part text × MatchesParts ps ts
unfolding MatchesParts
cons_in part text ps ts h = h

cons_out : (part : Part) (text : List ℕ) (ps : List Part) (ts : List (List ℕ)) → MatchesPart part text
    → MatchesParts ps ts → MatchesParts (part ∷ ps) (text ∷ ts)
unfolding MatchesParts
cons_out part text ps ts here rest = (here, rest)

-- the parts and the texts at a place, and those behind it
pub record AtPlace (ps : List Part) (ts : List (List ℕ)) (i : ℕ) (part : Part) (text : List ℕ) : Type 0 where
  pub part_is : drop i ps ≡ part ∷ drop (i + 1) ps
  pub text_is : drop i ts ≡ text ∷ drop (i + 1) ts

pub at_place : (ps : List Part) (ts : List (List ℕ)) (i : ℕ) (part : Part) (item text : List ℕ) → i < length ps
    → i < length ts
    → part ≡ get_or ps i part → item ≡ get_or ts i item → text ≡ item → AtPlace ps ts i part text
at_place ps ts i part item text lp lt pis tis same =
    record { part_is = drop_part ps i part lp pis; text_is = drop_text ts i item text lt tis same }

pub matched_in : (ps : List Part) (ts : List (List ℕ)) (i : ℕ) (part : Part) (text : List ℕ) → AtPlace ps ts i part text
    → MatchesParts (drop i ps) (drop i ts) → MatchesPart part text × MatchesParts (drop (i + 1) ps) (drop (i + 1) ts)
matched_in ps ts i part text at h = cons_in part text (drop (i + 1) ps) (drop (i + 1) ts)
    (subst (λ (xs : List Part). MatchesParts xs (text ∷ drop (i + 1) ts)) at.part_is
    (subst (λ (xs : List (List ℕ)). MatchesParts (drop i ps) xs) at.text_is h))

pub matched_out : (ps : List Part) (ts : List (List ℕ)) (i : ℕ) (part : Part) (text : List ℕ)
    → AtPlace ps ts i part text
    → MatchesPart part text → MatchesParts (drop (i + 1) ps) (drop (i + 1) ts) → MatchesParts (drop i ps) (drop i ts)
matched_out ps ts i part text at here rest =
    subst (λ (xs : List (List ℕ)). MatchesParts (drop i ps) xs) (sym at.text_is)
    (subst (λ (xs : List Part). MatchesParts xs (text ∷ drop (i + 1) ts)) (sym at.part_is)
    (cons_out part text (drop (i + 1) ps) (drop (i + 1) ts) here rest))

none_left : MatchesParts [] []
unfolding MatchesParts
none_left = tt

pub matched_end : (ps : List Part) (ts : List (List ℕ)) (i : ℕ) → length ps ≤ i → length ts ≤ i
    → MatchesParts (drop i ps) (drop i ts)
matched_end ps ts i lp lt =
    subst (λ (xs : List Part). MatchesParts xs (drop i ts)) (sym (drop_all i ps lp))
    (subst (λ (xs : List (List ℕ)). MatchesParts [] xs) (sym (drop_all i ts lt)) none_left)

pub same_number : (ps : List Part) (ts : List (List ℕ)) → MatchesParts ps ts → length ps ≡ length ts
unfolding MatchesParts
same_number [] [] h = refl
same_number [] (t ∷ ts) h = absurd h
same_number (p ∷ ps) [] h = absurd h
same_number (p ∷ ps) (t ∷ ts) h = ap suc (same_number ps ts h.1)

set_first : (count : ℕ) (places : List ℕ) (place : ℕ) → length places < count
    → slice_set (first_of count places) (length places) (Some place) ≡ first_of count (places ++ place ∷ [])
unfolding first_of
set_first zero places place lt = absurd (omega arith)
set_first (suc count) [] place lt = refl
set_first (suc count) (p ∷ places) place lt =
    ap (λ (rest : List (Option ℕ)). Some p ∷ rest) (set_first count places place (omega arith))

full_first : (count : ℕ) (places : List ℕ) (place : ℕ) → count ≤ length places
    → first_of count (places ++ place ∷ []) ≡ first_of count places
unfolding first_of
full_first zero places place le = refl
full_first (suc count) [] place le = absurd (omega arith)
full_first (suc count) (p ∷ places) place le =
    ap (λ (rest : List (Option ℕ)). Some p ∷ rest) (full_first count places place (omega arith))

pub found_more : (places : List ℕ) (place : ℕ) (old : Found) → old.count < 9 → IsFound places old
    → IsFound (places ++ place ∷ []) (record { at = slice_set old.at old.count (Some place); count = old.count + 1 })
found_more places place old lt h =
    let few : length places < 9 = omega (arith, h.count_is) in
    let count : old.count ≡ length places = omega (arith, h.count_is) in
    record {
      at_is = ap (λ (l : List (Option ℕ)). slice_set l old.count (Some place)) h.at_is
          ∙ ap (λ (n : ℕ). slice_set (first_of 9 places) n (Some place)) count
          ∙ set_first 9 places place few;
      count_is = omega (arith, h.count_is, length-append places (place ∷ []));
    }

pub found_full : (places : List ℕ) (place : ℕ) (old : Found) → 9 ≤ old.count → IsFound places old
    → IsFound (places ++ place ∷ []) old
found_full places place old full h =
    let many : 9 ≤ length places = omega (arith, h.count_is) in
    record {
      at_is = h.at_is ∙ sym (full_first 9 places place many);
      count_is = omega (arith, h.count_is, length-append places (place ∷ []));
    }

wild-append : (k : ℕ) (ps qs : List Part)
    → wild_places k (ps ++ qs) ≡ wild_places k ps ++ wild_places (k + length ps) qs
unfolding wild_places
wild-append k [] qs = let same : k ≡ k + 0 = omega arith in ap (λ (n : ℕ). wild_places n qs) same
wild-append k (p ∷ ps) qs =
    let same : k + 1 + length ps ≡ k + length (p ∷ ps) = omega arith in
    let rest = wild-append (k + 1) ps qs ∙ ap (λ (n : ℕ). wild_places (k + 1) ps ++ wild_places n qs) same in
    elim (is_any p) as (λ w. (if w then k ∷ wild_places (k + 1) (ps ++ qs) else wild_places (k + 1) (ps ++ qs))
    ≡ (if w then k ∷ wild_places (k + 1) ps else wild_places (k + 1) ps) ++ wild_places (k + length (p ∷ ps)) qs) [
      | true ↦ ap (λ (l : List ℕ). k ∷ l) rest
      | false ↦ rest
    ]

wild-one : (k : ℕ) (part : Part) → is_any part ≡ true → wild_places k (part ∷ []) ≡ k ∷ []
unfolding wild_places
wild-one k part wild = rw wild refl

wild-none : (k : ℕ) (part : Part) → is_any part ≡ false → wild_places k (part ∷ []) ≡ []
unfolding wild_places
wild-none k part wild = rw wild refl

-- the parts before a place, with one more
pub places_wild : (ps : List Part) (part : Part) → is_any part ≡ true
    → wild_places 0 (ps ++ part ∷ []) ≡ wild_places 0 ps ++ length ps ∷ []
places_wild ps part wild =
    let same : 0 + length ps ≡ length ps = omega arith in
    wild-append 0 ps (part ∷ []) ∙ ap (λ (n : ℕ). wild_places 0 ps ++ wild_places n (part ∷ [])) same
    ∙ ap (λ (l : List ℕ). wild_places 0 ps ++ l) (wild-one (length ps) part wild)

pub places_plain : (ps : List Part) (part : Part) → is_any part ≡ false
    → wild_places 0 (ps ++ part ∷ []) ≡ wild_places 0 ps
places_plain ps part wild =
    wild-append 0 ps (part ∷ []) ∙ ap (λ (l : List ℕ). wild_places 0 ps ++ l) (wild-none (0 + length ps) part wild)
    ∙ append-nil (wild_places 0 ps)

nothing_wild : wild_places 0 [] ≡ []
unfolding wild_places
nothing_wild = refl

pub found_none : (found : Found) → IsFound [] found → IsFound (wild_places 0 []) found
found_none found h = subst (λ (l : List ℕ). IsFound l found) (sym nothing_wild) h

take_part : (ps : List Part) (i : ℕ) (part : Part) → i < length ps → part ≡ get_or ps i part
    → take (i + 1) ps ≡ take i ps ++ part ∷ []
take_part ps i part lt is = take_more ps i part lt ∙ ap (λ (p : Part). take i ps ++ p ∷ []) (sym is)

pub found_wild : (ps : List Part) (i place : ℕ) (part : Part) (old new : Found) → i < length ps
    → part ≡ get_or ps i part → is_any part ≡ true → place ≡ i
    → IsFound (wild_places 0 (take i ps)) old
    → ((places : List ℕ) → IsFound places old → IsFound (places ++ place ∷ []) new)
    → IsFound (wild_places 0 (take (i + 1) ps)) new
found_wild ps i place part old new lt is wild same h add =
    let len : length (take i ps) ≡ place = length-take-le i ps (omega arith) ∙ sym same in
    subst (λ (l : List ℕ). IsFound l new)
    (ap (λ (n : ℕ). wild_places 0 (take i ps) ++ n ∷ []) (sym len) ∙ sym (places_wild (take i ps) part wild)
    ∙ ap (λ (l : List Part). wild_places 0 l) (sym (take_part ps i part lt is)))
    (add (wild_places 0 (take i ps)) h)

pub found_plain : (ps : List Part) (i : ℕ) (part : Part) (old : Found) → i < length ps → part ≡ get_or ps i part
    → is_any part ≡ false
    → IsFound (wild_places 0 (take i ps)) old → IsFound (wild_places 0 (take (i + 1) ps)) old
found_plain ps i part old lt is wild h =
    subst (λ (l : List ℕ). IsFound l old) (sym (places_plain (take i ps) part wild)
    ∙ ap (λ (l : List Part). wild_places 0 l) (sym (take_part ps i part lt is))) h

whole_found : (ps : List Part) (i : ℕ) (found : Found) → length ps ≤ i → IsFound (wild_places 0 (take i ps)) found
    → IsFound (wild_places 0 ps) found
whole_found ps i found le h = subst (λ (l : List Part). IsFound (wild_places 0 l) found) (take_all i ps le) h

pub realm_wild : (ps : List Part) (i place : ℕ) (realm : Part) (old new : Found) → length ps ≤ i → is_any realm ≡ true
    → place ≡ length ps
    → IsFound (wild_places 0 (take i ps)) old
    → ((places : List ℕ) → IsFound places old → IsFound (places ++ place ∷ []) new)
    → IsFound (wild_places 0 (ps ++ realm ∷ [])) new
realm_wild ps i place realm old new le wild same h add =
    subst (λ (l : List ℕ). IsFound l new) (ap (λ (n : ℕ). wild_places 0 ps ++ n ∷ []) same
    ∙ sym (places_wild ps realm wild)) (add (wild_places 0 ps) (whole_found ps i old le h))

pub realm_plain : (ps : List Part) (i : ℕ) (realm : Part) (old : Found) → length ps ≤ i → is_any realm ≡ false
    → IsFound (wild_places 0 (take i ps)) old → IsFound (wild_places 0 (ps ++ realm ∷ [])) old
realm_plain ps i realm old le wild h =
    subst (λ (l : List ℕ). IsFound l old) (sym (places_plain ps realm wild)) (whole_found ps i old le h)

-- a pattern of parts matches where they match
pub shape_matches : (shape : PatternShape) (parts : List Part) (realm : Part) (name : NameParts)
    → shape ≡ Parts parts realm
    → MatchesParts parts name.parts → MatchesPart realm name.realm → Matches shape name
unfolding Matches
shape_matches shape parts realm name is h here = subst (λ (s : PatternShape). Matches s name) (sym is) (h, here)

pub shape_matched : (shape : PatternShape) (parts : List Part) (realm : Part) (name : NameParts)
    → shape ≡ Parts parts realm
    → Matches shape name → MatchesParts parts name.parts × MatchesPart realm name.realm
unfolding Matches
shape_matched shape parts realm name is h = subst (λ (s : PatternShape). Matches s name) is h

pub every_matches : (shape : PatternShape) (name : NameParts) → shape ≡ Every → Matches shape name
unfolding Matches
every_matches shape name is = subst (λ (s : PatternShape). Matches s name) (sym is) tt

pub every_hits : (shape : PatternShape) → shape ≡ Every → first_of 9 [] ≡ hits_of shape
unfolding hits_of
every_hits shape is = sym (ap hits_of is)

pub parts_hits : (shape : PatternShape) (parts : List Part) (realm : Part) → shape ≡ Parts parts realm
    → first_of 9 (wild_places 0 (parts ++ realm ∷ [])) ≡ hits_of shape
unfolding hits_of
parts_hits shape parts realm is = sym (ap hits_of is)

-- a pattern within the limits of names has few parts
pub within_few : (shape : PatternShape) (parts : List Part) (realm : Part) → shape ≡ Parts parts realm → IsWithin shape
    → length parts ≤ 16
unfolding IsWithin
within_few shape parts realm is h =
    let name = subst (λ (s : PatternShape). IsWithin s) is h in
    omega (arith, name.few, length-map parts (λ (p : Part). p.text))
