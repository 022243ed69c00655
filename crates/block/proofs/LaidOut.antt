-- A granted file is its three fields and nothing else, and such a file is granted. Assumes nothing.
use Rattle.std.proofs.Common.{◌≡◌, ℕ, ◌+◌, ◌*◌, ◌/◌, ◌%◌, ◌<◌, ◌≤◌, true, eqb, List, [], ◌∷◌, ◌++◌, length, get_or, take, drop, Some, None, Option, sym, refl, ap, ◌∙◌, subst, append_assoc, append-nil, add_assoc, arith, length-append, take-append-drop, drop-drop, get_or-append-add, eqb-true}
use lib.Seq.{drop-append-add, take-append_seam, get_or-append_seam}
use Rattle.std.proofs.lemmas.Bool.Decides.{nat_tests}
use Rattle.std.proofs.lemmas.List.{drop_all, drop_more}
use Rattle.std.specs.Cmp.{first_so, second_so}
use Rattle.base.specs.declared.refusal.Refusal.{Refusal}
use Rattle.block.specs.declared.due.Due.{Due}
use Rattle.block.specs.declared.due.Due.TheVariants.{Plan, Search, Values}
use Rattle.block.specs.Bytes.{wide}
use Rattle.block.specs.Fields.{tag_of, length_of, listed, sound}
use Rattle.block.specs.File.{body_at, field_fault, tail_fault, first_of, file_fault, plan_at, search_at, values_at, end_at, sent_of}
use Rattle.block.specs.Layout.{written, Bytes, GrantedFilesAreLaidOut, LaidOutFilesAreGranted}
use Rattle.block.proofs.Sound.{body-length, sound-body}

module _ (input : List ℕ) (at : ℕ) (due : Due) where
  tag-there : field_fault input at due ≡ None → get_or input at 0 ≡ tag_of due
  tag-there h = grind (arith, nat_tests)

  length-there : field_fault input at due ≡ None → wide input (at + 1) ≡ length_of due
  length-there h = grind (arith, nat_tests)

  body-there : field_fault input at due ≡ None → at + 3 + length_of due ≤ length input
  body-there h = grind (arith, nat_tests)

high : (x y n : ℕ) → y < 256 → x * 256 + y ≡ n → x ≡ n / 256
high x y n h e = omega arith

low : (x y n : ℕ) → y < 256 → x * 256 + y ≡ n → y ≡ n % 256
low x y n h e = omega arith

split-three : (xs : List ℕ) (i : ℕ) → i + 3 ≤ length xs
    → drop i xs ≡ get_or xs i 0 ∷ get_or xs (i + 1) 0 ∷ get_or xs (i + 1 + 1) 0 ∷ drop (i + 3) xs
split-three xs i h =
    let a = drop_more xs i 0 (omega arith) in
    let b = drop_more xs (i + 1) 0 (omega arith) in
    let c = drop_more xs (i + 1 + 1) 0 (omega arith) in
    let d : i + 1 + 1 + 1 ≡ i + 3 = omega arith in
    let e = ap (λ (k : ℕ). drop k xs) d in
    cc

cons-three : (a a' b b' c c' : ℕ) (r r' : List ℕ) → a ≡ a' → b ≡ b' → c ≡ c' → r ≡ r' → a ∷ b ∷ c ∷ r ≡ a' ∷ b' ∷ c' ∷ r'
cons-three a a' b b' c c' r r' p q s t = cc

-- what stands from a granted field on is that field as it is written, and the rest
field-splits : (input : List ℕ) (at : ℕ) (due : Due) → Bytes input → field_fault input at due ≡ None
    → drop at input ≡ written (tag_of due) (body_at input at due) ++ drop (at + 3 + length_of due) input
field-splits input at due bytes h =
    let fits = body-there input at due h in
    let len = length-there input at due h in
    let size = body-length input at due fits in
    split-three input at (omega arith)
    ∙ cons-three _ _ _ _ _ _ _ _ (tag-there input at due h)
    (high _ _ _ (bytes (at + 1 + 1)) (len ∙ sym size))
    (low _ _ _ (bytes (at + 1 + 1)) (len ∙ sym size))
    (sym (take-append-drop (length_of due) (drop (at + 3) input))
    ∙ ap (λ (r : List ℕ). body_at input at due ++ r) (drop-drop (length_of due) (at + 3) input))

first-none : (a b : Option Refusal) → first_of a b ≡ None → (a ≡ None) × (b ≡ None)
first-none (Some e) b h = absurd (cc)
first-none None b h = (refl, h)

pub granted-files-are-laid-out : GrantedFilesAreLaidOut
granted-files-are-laid-out input bytes h =
    let sent = sent_of input in
    let one = first-none (field_fault input plan_at Plan) _ h in
    let two = first-none (field_fault input search_at Search) _ one.1 in
    let three = first-none (field_fault input values_at (Values sent)) (tail_fault input (end_at sent)) two.1 in
    let a = field-splits input plan_at Plan bytes one.0 in
    let b = field-splits input search_at Search bytes two.0 in
    let c = field-splits input values_at (Values sent) bytes three.0 in
    let short : length input ≤ end_at sent = grind (arith, nat_tests) in
    let d = drop_all (end_at sent) input short in
    let plan = body_at input plan_at Plan in
    let limits = body_at input search_at Search in
    let values = body_at input values_at (Values sent) in
    let last : drop values_at input ≡ written 3 values = c ∙ ap (λ (r : List ℕ). written 3 values ++ r) d ∙ append-nil (written 3 values) in (
      plan,
      (
        limits,
        (
          values,
          record {
            whole = a ∙ ap (λ (r : List ℕ). written 1 plan ++ r) (b ∙ ap (λ (r : List ℕ). written 2 limits ++ r) last);
            plan-sound = sound-body input plan_at Plan one.0;
            limits-sound = sound-body input search_at Search two.0;
            values-sound = sound-body input values_at (Values sent) three.0;
          },
        ),
      ),
    )

-- a sound field that stands at the end of what comes before it
module _ (pre body post : List ℕ) (due : Due) (good : sound due body ≡ true) where
  abbrev file : List ℕ
  file = pre ++ (written (tag_of due) body ++ post)

  whole_length : length body ≡ length_of due
  whole_length = eqb-true _ _ (first_so (eqb (length body) (length_of due)) _ good)

  body_back : body_at file (length pre) due ≡ body
  body_back =
      ap (take (length_of due)) (drop-append-add pre (written (tag_of due) body ++ post) 3)
      ∙ ap (λ (k : ℕ). take k (body ++ post)) (sym whole_length) ∙ take-append_seam body post

  field-granted : field_fault file (length pre) due ≡ None
  field-granted =
      let size : length file ≡ length pre + (3 + length body + length post) =
      length-append pre _ ∙ ap (λ (k : ℕ). length pre + k) (length-append (written (tag_of due) body) post ∙ omega arith) in
      let tag = get_or-append_seam pre (tag_of due) ((length body / 256) ∷ (length body % 256) ∷ (body ++ post)) 0 in
      let hi = get_or-append-add pre (written (tag_of due) body ++ post) 1 0 in
      let lo : get_or file (length pre + 1 + 1) 0 ≡ length body % 256 =
      ap (λ (k : ℕ). get_or file k 0) (add_assoc (length pre) 1 1) ∙ get_or-append-add pre (written (tag_of due) body ++ post) 2 0 in
      let back = ap (listed due) body_back in
      let codes = second_so (eqb (length body) (length_of due)) _ good in
      let len = whole_length in
      grind (arith, nat_tests)

pub laid-out-files-are-granted : LaidOutFilesAreGranted
laid-out-files-are-granted input plan limits values laid =
    let front = written 1 plan ++ written 2 limits in
    let sent = wide plan 3 in
    let p = whole_length [] plan [] Plan laid.plan-sound in
    let s = whole_length [] limits [] Search laid.limits-sound in
    let v = whole_length [] values [] (Values sent) laid.values-sound in
    let rest = written 2 limits ++ written 3 values in
    let same : front ++ (written 3 values ++ []) ≡ written 1 plan ++ rest =
    ap (λ (r : List ℕ). front ++ r) (append-nil (written 3 values)) ∙ append_assoc (written 1 plan) (written 2 limits) (written 3 values) in
    let at-two : length (written 1 plan) ≡ search_at = omega arith in
    let at-three : length front ≡ values_at = length-append (written 1 plan) (written 2 limits) ∙ omega arith in
    let size : length (written 1 plan ++ rest) ≡ end_at sent =
    length-append (written 1 plan) rest ∙ omega (arith, length-append (written 2 limits) (written 3 values)) in
    let one : field_fault (written 1 plan ++ rest) plan_at Plan ≡ None =
    field-granted [] plan rest Plan laid.plan-sound in
    let two : field_fault (written 1 plan ++ rest) search_at Search ≡ None =
    subst (λ (k : ℕ). field_fault (written 1 plan ++ rest) k Search ≡ None) at-two
    (field-granted (written 1 plan) limits (written 3 values) Search laid.limits-sound) in
    let three : field_fault (written 1 plan ++ rest) values_at (Values sent) ≡ None =
    subst (λ (k : ℕ). field_fault (written 1 plan ++ rest) k (Values sent) ≡ None) at-three
    (subst (λ (file : List ℕ). field_fault file (length front) (Values sent) ≡ None) same
    (field-granted front values [] (Values sent) laid.values-sound)) in
    let four : tail_fault (written 1 plan ++ rest) (end_at sent) ≡ None = grind (arith, nat_tests) in
    let grant : sent_of (written 1 plan ++ rest) ≡ sent =
    ap (λ (body : List ℕ). wide body 3) (body_back [] plan rest Plan laid.plan-sound) in
    subst (λ (file : List ℕ). file_fault file ≡ None) (sym laid.whole)
    (let five : field_fault (written 1 plan ++ rest) values_at (Values (sent_of (written 1 plan ++ rest))) ≡ None = rw grant three in
    let six : tail_fault (written 1 plan ++ rest) (end_at (sent_of (written 1 plan ++ rest))) ≡ None = rw grant four in
    cc)
