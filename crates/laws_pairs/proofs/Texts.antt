-- Each text is exactly what this product's definition gives, so it tells one thing.
use Prim.Native.Nat.{ℕ, ◌+◌, ◌*◌, ◌/◌, ◌%◌, ◌^◌, ◌≤◌, ◌<◌}
use mathlib.Core.Path.{◌≡◌, refl, sym, ◌∙◌, subst}
use mathlib.Core.List.{List, [], ◌∷◌, ◌++◌}
use mathlib.Core.Logic.{◌↔◌}
use native.Mathlib.Omega.{arith}
use Rattle.log_pairs.specs.Comparing.{Answer, first, second, refused}
use Rattle.log_pairs.specs.Text.{answer_text}
use Rattle.report_text.specs.Decimal.{digit, decimal}
use Rattle.report_text.specs.Text.{low32, byte_after, line_text, headed_text, end_text}
use Rattle.report_text.proofs.Decimals as decimals
use Rattle.report_text.proofs.ReadBack.{one_line, one_number}
use Rattle.laws_pairs.specs.Text.{Decimal, one-digit, digit-more, LineText, last-number, number_more, EndText, end-then, PartText, rest-first, rest-second, refused-then}
use Rattle.laws_pairs.specs.OurText.{Within32, OurTexts, OneText, OneMeaning}

-- ---- a number
pub number_is : {n : ℕ} {text : List ℕ} → Decimal n text → text ≡ decimal n
number_is (one-digit d h) = sym (decimals.one-digit d h)
number_is (digit-more tens d text p h before) =
    let n = 10 * tens + d in
    let e : n / 10 ≡ tens = omega arith in
    let f : n % 10 ≡ d = omega arith in
    rw (decimals.more-digits n (omega arith), e, f, number_is before)

numbered : (n : ℕ) → Decimal n (decimal n)
numbered = decimals.by_digits Decimal one-digit more
  where
    more : (n : ℕ) (tens : List ℕ) → 10 ≤ n → Decimal (n / 10) tens → Decimal n (tens ++ (digit (n % 10) ∷ []))
    more n tens h before =
        let whole : 10 * (n / 10) + n % 10 ≡ n = omega arith in
        subst (λ (m : ℕ). Decimal m (tens ++ (digit (n % 10) ∷ []))) whole (digit-more (n / 10) (n % 10) tens (omega arith) (omega arith) before)

-- ---- a line
space : {ns text : List ℕ} → LineText ns text → byte_after ns ≡ 32
space (last-number n text d) = refl
space (number_more n ns text line d more) = refl

pub line-is : {ns text : List ℕ} → LineText ns text → text ≡ line_text ns
unfolding line_text
line-is (last-number n text d) = rw (number_is d)
line-is (number_more n ns text line d more) = rw (number_is d, space more, line-is more)

lined : (n : ℕ) (ns : List ℕ) → LineText (n ∷ ns) (line_text (n ∷ ns))
unfolding line_text
lined n [] = last-number n (decimal n) (numbered n)
lined n (m ∷ ns) = number_more n (m ∷ ns) (decimal n) (line_text (m ∷ ns)) (numbered n) (lined m ns)

line-iff : (n : ℕ) (ns text : List ℕ) → LineText (n ∷ ns) text ↔ (text ≡ line_text (n ∷ ns))
line-iff n ns text = (line-is, λ e. rw e (lined n ns))

-- ---- a line that a word begins
end-iff : (records code offset : ℕ) (text : List ℕ) → EndText records code offset text ↔ (text ≡ end_text (records ∷ code ∷ offset ∷ []))
unfolding end_text headed_text
end-iff records code offset text = (told, λ e. rw e (end-then _ (lined records (code ∷ offset ∷ []))))
  where
    told : {text : List ℕ} → EndText records code offset text → text ≡ end_text (records ∷ code ∷ offset ∷ [])
    told (end-then line l) = rw (line-is l)

low : (n : ℕ) → n < 2 ^ 32 → low32 n ≡ n
low n h = omega arith

part-is : {answer : Answer} {text : List ℕ} → PartText answer text → Within32 answer → text ≡ answer_text answer
unfolding headed_text
part-is (rest-first at line l) h = rw (low at h, line-is l)
part-is (rest-second at line l) h = rw (low at h, line-is l)
part-is (refused-then n number place line l) h = rw (low number h.0, low place h.1, line-is l)

part-told : (answer : Answer) → Within32 answer → PartText answer (answer_text answer)
unfolding headed_text
part-told (first at) h = rw (low at h) (rest-first at _ (lined at []))
part-told (second at) h = rw (low at h) (rest-second at _ (lined at []))
part-told (refused n number place) h = rw (low number h.0, low place h.1) (refused-then n number place _ (lined n (number ∷ place ∷ [])))

pub part-iff : (answer : Answer) → Within32 answer → (text : List ℕ) → PartText answer text ↔ (text ≡ answer_text answer)
part-iff answer h text = (λ p. part-is p h, λ e. rw e (part-told answer h))

pub our-texts : OurTexts
our-texts = record {
  number = λ n text. (number_is, λ e. rw e (numbered n));
  line = line-iff;
  ending = end-iff;
  part = part-iff;
}

-- ---- one text, one meaning
same_line : {ns ms s t : List ℕ} → LineText ns s → LineText ms t → s ≡ t → ns ≡ ms
same_line p q e = one_line _ _ (sym (line-is p) ∙ e ∙ line-is q)

part_apart : {x y : Answer} {s t : List ℕ} → PartText x s → PartText y t → s ≡ t → x ≡ y
part_apart (rest-first at line l) (rest-first to other m) e = let lines : line ≡ other = cc in let k = same_line l m lines in cc
part_apart (rest-first at line l) (rest-second to other m) e = absurd (let z : ◌≡◌ {A = ℕ} 70 83 = cc in omega arith)
part_apart (rest-first at line l) (refused-then n number place other m) e = absurd (let z : ◌≡◌ {A = ℕ} 115 102 = cc in omega arith)
part_apart (rest-second at line l) (rest-first to other m) e = absurd (let z : ◌≡◌ {A = ℕ} 83 70 = cc in omega arith)
part_apart (rest-second at line l) (rest-second to other m) e = let lines : line ≡ other = cc in let k = same_line l m lines in cc
part_apart (rest-second at line l) (refused-then n number place other m) e = absurd (let z : ◌≡◌ {A = ℕ} 115 102 = cc in omega arith)
part_apart (refused-then n number place line l) (rest-first to other m) e = absurd (let z : ◌≡◌ {A = ℕ} 102 115 = cc in omega arith)
part_apart (refused-then n number place line l) (rest-second to other m) e = absurd (let z : ◌≡◌ {A = ℕ} 102 115 = cc in omega arith)
part_apart (refused-then n number place line l) (refused-then c order at other m) e = let lines : line ≡ other = cc in let k = same_line l m lines in cc

part-one : {x : Answer} {s t : List ℕ} → PartText x s → PartText x t → s ≡ t
part-one (rest-first at line l) (rest-first _ other m) = rw (line-is l, line-is m)
part-one (rest-second at line l) (rest-second _ other m) = rw (line-is l, line-is m)
part-one (refused-then n number place line l) (refused-then _ _ _ other m) = rw (line-is l, line-is m)

pub one-text : OneText
one-text = record {
  number = λ n a b p q. number_is p ∙ sym (number_is q);
  line = λ ns a b p q. line-is p ∙ sym (line-is q);
  ending = λ records code offset a b p q. (end-iff records code offset a).0 p ∙ sym ((end-iff records code offset b).0 q);
  part = λ x a b p q. part-one p q;
}

pub one-meaning : OneMeaning
one-meaning = record {
  number = λ n m text p q. one_number n m (sym (number_is p) ∙ number_is q);
  line = λ ns ms text p q. same_line p q refl;
  part = λ x y text p q. part_apart p q refl;
}
