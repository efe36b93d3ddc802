-- The lines of a dump have their numbers.
use Rattle.std.proofs.Common.{◌≡◌, ℕ, zero, suc, ◌+◌, ◌<◌, List, [], ◌∷◌, ◌++◌}
use Rattle.std.proofs.Common.{get_or, length, map, refl, sym, ap, ◌∙◌, arith}
use Rattle.std.specs.List.{flat_map}
use Rattle.std.proofs.lemmas.List.{append_assoc, append-nil}
use Rattle.dump_text.specs.Dumps.{dump_text, end_line, ended, head_text, policy_line}
use Rattle.dump_text.specs.Dumps.{princ_line, realm_line, row_count, rows_text}
use Rattle.dump_text.specs.declared.versions.Version.{Version}
use Rattle.kdb_base.specs.declared.moments.Point.{Point}
use Rattle.primary_loading.specs.Lines.{dump_lines}
use Rattle.princ_record.specs.declared.princs.Princ.{Princ}
use Rattle.princ_rows.specs.Rows.{RowLists}

-- lines in front of others
mapped : {A : Type 0} (line : A → List ℕ) (xs : List A) (more : List (List ℕ))
    → flat_map ended (map line xs ++ more) ≡ flat_map (λ x. ended (line x)) xs ++ flat_map ended more
mapped line [] more = refl
mapped line (x ∷ xs) more = ap (λ (y : List ℕ). ended (line x) ++ y) (mapped line xs more)
    ∙ sym (append_assoc (ended (line x)) (flat_map (λ x. ended (line x)) xs) (flat_map ended more))

at_map : {A : Type 0} (line : A → List ℕ) (xs : List A) (more : List (List ℕ)) (i : ℕ) (d : List ℕ) (e : A)
    → i < length xs
    → get_or (map line xs ++ more) i d ≡ line (get_or xs i e)
at_map line [] more i d e lt = absurd (omega arith)
at_map line (x ∷ xs) more zero d e lt = refl
at_map line (x ∷ xs) more (suc i) d e lt = at_map line xs more i d e (omega arith)

behind_map : {A : Type 0} (line : A → List ℕ) (xs : List A) (more : List (List ℕ)) (n i : ℕ) (d : List ℕ)
    → n ≡ length xs + i → get_or (map line xs ++ more) n d ≡ get_or more i d
behind_map line [] more n i d e = let is : n ≡ i = omega (arith, e) in ap (λ (k : ℕ). get_or more k d) is
behind_map line (x ∷ xs) more zero i d e = absurd (omega (arith, e))
behind_map line (x ∷ xs) more (suc n) i d e = behind_map line xs more n i d (omega (arith, e))

pub text_is : (version : Version) (realm : List ℕ) (point : Point) (rows : RowLists)
    → dump_text version realm point rows ≡ flat_map ended (dump_lines version realm point rows)
unfolding dump_text head_text rows_text dump_lines
text_is version realm point rows =
    let last : List (List ℕ) = end_line (row_count rows) ∷ [] in
    let policies = mapped policy_line rows.policies last in
    let princs = mapped princ_line rows.princs (map policy_line rows.policies ++ last) in
    rw (princs, policies) (simp (append_assoc, append-nil) refl)

pub realm_at : (version : Version) (realm : List ℕ) (point : Point) (rows : RowLists) (d : List ℕ) (at : ℕ) → at + 1 ≡ 2
    → get_or (dump_lines version realm point rows) at d ≡ realm_line realm
unfolding dump_lines
realm_at version realm point rows d at e = let is : at ≡ 1 = omega (arith, e) in rw is refl

pub princ_at : (version : Version) (realm : List ℕ) (point : Point) (rows : RowLists) (d : List ℕ) (e : Princ)
    (at place : ℕ) → place < length rows.princs → at + 1 ≡ place + 4
    → get_or (dump_lines version realm point rows) at d ≡ princ_line (get_or rows.princs place e)
unfolding dump_lines
princ_at version realm point rows d e at place lt number =
    let is : at ≡ suc (suc (suc place)) = omega (arith, number) in
    rw is (at_map princ_line rows.princs (map policy_line rows.policies ++ end_line (row_count rows) ∷ []) place d e lt)

pub last_at : (version : Version) (realm : List ℕ) (point : Point) (rows : RowLists) (d : List ℕ) (at : ℕ)
    → at + 1 ≡ row_count rows + 4
    → get_or (dump_lines version realm point rows) at d ≡ end_line (row_count rows)
unfolding dump_lines
last_at version realm point rows d at number =
    let last : List (List ℕ) = end_line (row_count rows) ∷ [] in
    let is : at ≡ suc (suc (suc (length rows.princs + length rows.policies))) = omega (arith, number) in
    rw is (behind_map princ_line rows.princs (map policy_line rows.policies ++ last)
    (length rows.princs + length rows.policies) (length rows.policies) d refl
    ∙ behind_map policy_line rows.policies last (length rows.policies) 0 d (omega arith))
