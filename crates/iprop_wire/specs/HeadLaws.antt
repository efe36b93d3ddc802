-- The head of a reply is read as it is spelled.
use Rattle.std.proofs.Common.{◌≡◌, ℕ, ◌^◌, ◌<◌, Bool, true, false, cond, List}
use Rattle.std.proofs.Common.{◌++◌, Option, Some, None, refl, sym, ap, ◌∙◌, arith}
use Rattle.std.specs.Prelude.{nat_eq}
use Rattle.std.proofs.lemmas.Bool.{eqb-true}
use Rattle.std.proofs.lemmas.Option.{same_Some}
use Rattle.kdb_base.specs.declared.moments.Point.{Point}
use Rattle.kdb_format.specs.Fields.{IsField}
use Rattle.kdb_format.specs.Laws.{same_field, first_field, then_field, last_field, refuse_field, big_field}
use Rattle.kdb_format.specs.Moments.{point, IsPoint, point_at, point_field}
use Rattle.kdb_format.specs.Readings.{Reading, ◌>>=◌, done, known, big_at}
use Rattle.kdb_format.specs.Spellings.{big}
use Rattle.princ_rows.specs.Replies.{number_of, code_of}
use Rattle.princ_rows.specs.declared.replies.ReplyCode.{ReplyCode}
use Rattle.princ_rows.specs.declared.replies.ReplyCode.TheVariants.{UpdateOk, FullResyncNeeded, Busy, Nil, PermDenied}
use Rattle.iprop_wire.specs.Decoding.{head_at}
use Rattle.iprop_wire.specs.Messages.{head_text}
use Rattle.iprop_wire.specs.declared.formats.Head.{Head}

pub record IsHead (h : Head) : Type 0 where
  pub asked : IsPoint h.asked
  pub count : h.count < 2 ^ 32

-- ---- codes and their numbers

pub code_again : (c : ReplyCode) → code_of (number_of c) ≡ Some c
code_again UpdateOk = refl
code_again FullResyncNeeded = refl
code_again Busy = refl
code_again Nil = refl
code_again PermDenied = refl

small_number : (c : ReplyCode) → number_of c < 256 ^ 1
small_number UpdateOk = omega arith
small_number FullResyncNeeded = omega arith
small_number Busy = omega arith
small_number Nil = omega arith
small_number PermDenied = omega arith

-- a code that was found here, or behind this
here : (n m : ℕ) (x c : ReplyCode) (others : Option ReplyCode) → number_of x ≡ m
    → cond (nat_eq n m) (Some x) others ≡ Some c
    → (others ≡ Some c → number_of c ≡ n) → number_of c ≡ n
here n m x c others is e behind = by_test (nat_eq n m) refl e
  where
    by_test : (b : Bool) → nat_eq n m ≡ b → cond b (Some x) others ≡ Some c → number_of c ≡ n
    by_test true t f = ap number_of (sym (same_Some x c f)) ∙ is ∙ sym (eqb-true n m t)
    by_test false t f = behind f

pub code_number : (n : ℕ) (c : ReplyCode) → code_of n ≡ Some c → number_of c ≡ n
code_number n c e =
    here n 0 UpdateOk c _ refl e (λ e1.
    here n 2 FullResyncNeeded c _ refl e1 (λ e2.
    here n 3 Busy c _ refl e2 (λ e3.
    here n 4 Nil c _ refl e3 (λ e4.
    here n 5 PermDenied c _ refl e4 (λ e5. absurd cc)))))

-- ---- the field

-- behind a number that is or is no code's
coded_field : {next : ReplyCode → Reading Head} {s : Head → List ℕ} {F : Head → Type 0} (o : Option ReplyCode)
    → ((c : ReplyCode) → o ≡ Some c → IsField (next c) s F) → ((h : Head) → F h → o ≡ Some h.code)
    → IsField (known o >>= next) s F
coded_field None some none = refuse_field (λ h f. absurd (no_code (none h f)))
  where
    no_code : {c : ReplyCode} → ◌≡◌ {A = Option ReplyCode} None (Some c) → ⊥
    no_code e = absurd cc
coded_field (Some c) some none = some c refl

same_head : (h : Head) (c : ReplyCode) (p : Point) → h.code ≡ c → h.asked ≡ p
    → ◌≡◌ {A = Head} (record { code = c; asked = p; count = h.count }) h
same_head h c p a b = rw (← a, ← b) refl

counted_head : (c : ReplyCode) (p : Point)
    → IsField (big_at 4 >>= λ count. done (record { code = c; asked = p; count = count })) (λ (h : Head). big 4 h.count)
    (λ h. ((h.asked ≡ p) × (h.code ≡ c)) × (h.count < 256 ^ 4))
counted_head c p = same_field
    (last_field {K = λ (h : Head). (h.code ≡ c) × (h.asked ≡ p)} (big_field 4) (λ (h : Head). h.count) (λ count.
    record { code = c; asked = p; count = count }) (λ _ _. (refl, (refl, refl))) (λ h k. same_head h c p k.0 k.1))
    (λ h f. (refl, ((f.0.1, f.0.0), f.1)))
    (λ h f. ((f.0.1, f.0.0), f.1))

asked_head : (c : ReplyCode)
    → IsField (point_at >>= λ asked. big_at 4 >>= λ count. done (record { code = c; asked = asked; count = count }))
    (λ (h : Head). point h.asked ++ big 4 h.count) (λ h. (h.code ≡ c) × (IsPoint h.asked × (h.count < 256 ^ 4)))
asked_head c = then_field {K = λ (h : Head). h.code ≡ c} point_field (λ (h : Head). h.asked) (λ p _. counted_head c p)

pub head_field : IsField head_at head_text IsHead
unfolding head_at head_text
head_field =
    let behind : (n : ℕ) → n < 256 ^ 1 → IsField (known (code_of n) >>= λ code. point_at >>= λ asked. big_at 4
    >>= λ count. done (record { code = code; asked = asked; count = count }))
    (λ (h : Head). point h.asked ++ big 4 h.count)
    (λ h. (number_of h.code ≡ n) × (IsPoint h.asked × (h.count < 256 ^ 4))) =
    λ n _. coded_field (code_of n)
    (λ c e. same_field (asked_head c)
    (λ h f. (refl, (ap number_of f.0 ∙ code_number n c e, f.1)))
    (λ h f. (same_Some h.code c (sym (code_again h.code) ∙ ap code_of f.0 ∙ e), f.1)))
    (λ h f. sym (ap code_of f.0) ∙ code_again h.code) in
    same_field (first_field (big_field 1) (λ (h : Head). number_of h.code) behind)
    (λ h f. (refl, record { asked = f.1.0; count = f.1.1 }))
    (λ h f. (small_number h.code, (f.asked, f.count)))
