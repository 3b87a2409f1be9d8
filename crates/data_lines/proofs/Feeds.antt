-- Each line has one line feed, at its end.
use Rattle.std.proofs.Common.{◌≡◌, ℕ, zero, suc, ◌+◌, ◌/◌, ◌%◌, Bool, true, false}
use Rattle.std.proofs.Common.{cond, eqb, ltb, List, [], ◌∷◌, ◌++◌, Option, None, Some, refl, sym, ap}
use Rattle.std.proofs.Common.{◌∙◌, arith, append_assoc}
use Rattle.std.specs.Prelude.{ℤ, pos, negsuc, codes, slice_index}
use Rattle.std.specs.Fmt.{decimal, digits, digits_onto, digit_glyph, signed_decimal}
use Rattle.std.specs.List.{flat_map}
use Rattle.std.specs.Str.{is_utf8}
use Rattle.std.proofs.lemmas.Bool.{ne_eqb}
use Rattle.std.proofs.lemmas.List.Sums.{sum_by-append, sum_by-cons}
use Rattle.data_lines.specs.Vocabulary.{AggFn, Count, Sum, Min, Max, Avg, Quantize, Lquantize}
use Rattle.data_lines.specs.Vocabulary.{Counted, Summed, Least, Greatest, Mean, Counts, Held}
use Rattle.data_lines.specs.Vocabulary.{Entry, Histogram, KeyPart, Name, Number, label}
use Rattle.data_lines.specs.Vocabulary.{Scale, Powers, Steps, levels_of}
use Rattle.data_lines.specs.Json.{array_of, comma_list}
use Rattle.data_lines.specs.Texts.{json_escape, hex_digits, in_hex, is_control, json_string, text_value}
use Rattle.data_lines.specs.Values.{bucket_value, entry_value, histogram_value, mean_value}
use Rattle.data_lines.specs.Values.{number_member, part_value, range_members}
use Rattle.data_lines.specs.Values.{used_buckets}
use Rattle.data_lines.specs.Lines.{EndsOnce, line_feeds, first_line, text_line, function_word}
use Rattle.data_lines.specs.Lines.{written_name, entry_head, entry_line, exit_value, last_line}

-- no line feed
record Quiet (bytes : List ℕ) : Type 0 where
  none : line_feeds bytes ≡ 0

-- bytes that are written out
literal : (xs : List ℕ) → line_feeds xs ≡ 0 → Quiet xs
literal xs none = record { none = none }

both : {xs ys : List ℕ} → Quiet xs → Quiet ys → Quiet (xs ++ ys)
both {xs} {ys} x y = record { none = sum_by-append (λ b. cond (eqb b 10) 1 0) xs ys ∙ omega (arith, x.none, y.none) }

byte : {xs : List ℕ} → (b : ℕ) → eqb b 10 ≡ false → Quiet xs → Quiet (b ∷ xs)
byte {xs} b other rest = record {
  none = sum_by-cons (λ b. cond (eqb b 10) 1 0) b xs ∙ ap (λ t. cond t 1 0 + line_feeds xs) other ∙ omega (arith, rest.none);
}

each : {A : Type 0} (f : A → List ℕ) → ((x : A) → Quiet (f x)) → (xs : List A) → Quiet (flat_map f xs)
each f one [] = literal [] refl
each f one (x ∷ xs) = both (one x) (each f one xs)

-- ---- numbers

glyph_quiet : (d : ℕ) → eqb (digit_glyph false d) 10 ≡ false
glyph_quiet d = at (ltb d 10)
  where
    at : (t : Bool) → eqb (cond t (48 + d) (87 + d)) 10 ≡ false
    at true = ne_eqb (48 + d) 10 (λ e. omega arith)
    at false = ne_eqb (87 + d) 10 (λ e. omega arith)

onto_quiet : (k n : ℕ) (acc : List ℕ) → Quiet acc → Quiet (digits_onto k 10 false n acc)
onto_quiet zero n acc quiet = quiet
onto_quiet (suc k) n acc quiet =
    at (eqb (n / 10) 0) (onto_quiet k (n / 10) (digit_glyph false (n % 10) ∷ acc) more)
  where
    more : Quiet (digit_glyph false (n % 10) ∷ acc)
    more = byte (digit_glyph false (n % 10)) (glyph_quiet (n % 10)) quiet

    at : (t : Bool) → Quiet (digits_onto k 10 false (n / 10) (digit_glyph false (n % 10) ∷ acc))
        → Quiet (cond t (digit_glyph false (n % 10) ∷ acc) (digits_onto k 10 false (n / 10) (digit_glyph false (n % 10) ∷ acc)))
    at true rest = more
    at false rest = rest

decimal_quiet : (n : ℕ) → Quiet (decimal n)
unfolding digits
decimal_quiet n = onto_quiet 64 n [] (literal [] refl)

signed_quiet : (z : ℤ) → Quiet (signed_decimal z)
signed_quiet (pos n) = decimal_quiet n
signed_quiet (negsuc n) = byte 45 refl (decimal_quiet (suc n))

-- ---- texts

hex_quiet : (b : ℕ) → Quiet (hex_digits b)
hex_quiet b = byte (digit_glyph false (b / 16)) (glyph_quiet (b / 16)) (byte (digit_glyph false (b % 16)) (glyph_quiet (b % 16)) (literal [] refl))

escaped_quiet : (b : ℕ) → Quiet (json_escape b)
escaped_quiet b = at (eqb b 34) (eqb b 92) (eqb b 10) refl (eqb b 9) (is_control b)
  where
    at : (quote backslash feed : Bool) → eqb b 10 ≡ feed → (tab control : Bool)
        → Quiet (cond quote (codes "\\\"") (cond backslash (codes "\\\\") (cond feed (codes "\\n") (cond tab (codes "\\t") (cond control (codes "\\u00" ++ hex_digits b) (b ∷ []))))))
    at true backslash feed is tab control = literal (codes "\\\"") refl
    at false true feed is tab control = literal (codes "\\\\") refl
    at false false true is tab control = literal (codes "\\n") refl
    at false false false is true control = literal (codes "\\t") refl
    at false false false is false true = both (literal (codes "\\u00") refl) (hex_quiet b)
    at false false false is false false = byte b is (literal [] refl)

quoted_quiet : (text : List ℕ) → Quiet (json_string text)
quoted_quiet text = byte 34 refl (both (each json_escape escaped_quiet text) (literal (34 ∷ []) refl))

in_hex_quiet : (text : List ℕ) → Quiet (in_hex text)
in_hex_quiet text = both (both (literal (codes "{\"hex\":\"") refl) (each hex_digits hex_quiet text)) (literal (codes "\"}") refl)

text_quiet : (text : List ℕ) → Quiet (text_value text)
text_quiet text = at (is_utf8 text)
  where
    at : (t : Bool) → Quiet (cond t (json_string text) (in_hex text))
    at true = quoted_quiet text
    at false = in_hex_quiet text

-- ---- keys and values

part_quiet : (part : KeyPart) → Quiet (part_value part)
part_quiet (Number number) = signed_quiet number
part_quiet (Name text) = text_quiet text

separated_quiet : {A : Type 0} (f : A → List ℕ) → ((x : A) → Quiet (f x)) → (xs : List A) → Quiet (comma_list f xs)
separated_quiet f one [] = literal [] refl
separated_quiet f one (x ∷ xs) = both (one x) (each (λ y. 44 ∷ f y) (λ y. byte 44 refl (one y)) xs)

array_quiet : {A : Type 0} (f : A → List ℕ) → ((x : A) → Quiet (f x)) → (xs : List A) → Quiet (array_of f xs)
array_quiet f one xs = byte 91 refl (both (separated_quiet f one xs) (literal (93 ∷ []) refl))

bucket_quiet : (h : Histogram) (b : ℕ) → Quiet (bucket_value h b)
bucket_quiet h b =
    byte 91 refl (both (both (signed_quiet (label h.scale b)) (byte 44 refl (decimal_quiet (slice_index h.counts b)))) (literal (93 ∷ []) refl))

member_quiet : {name number : List ℕ} → Quiet name → Quiet number → Quiet (number_member name number)
member_quiet name number = byte 34 refl (both (both (both name (literal (codes "\":") refl)) number) (literal (44 ∷ []) refl))

range_quiet : (scale : Scale) → Quiet (range_members scale)
range_quiet Powers = literal [] refl
range_quiet (Steps r) =
    both (both (both (member_quiet (literal (codes "lower") refl) (signed_quiet r.lower))
    (member_quiet (literal (codes "upper") refl) (signed_quiet r.upper)))
    (member_quiet (literal (codes "step") refl) (decimal_quiet r.step)))
    (member_quiet (literal (codes "levels") refl) (decimal_quiet (levels_of r)))

histogram_quiet : (h : Histogram) → Quiet (histogram_value h)
histogram_quiet h =
    both (both (both (both (literal (codes "{") refl) (range_quiet h.scale)) (literal (codes "\"counts\":") refl))
    (array_quiet (bucket_value h) (bucket_quiet h) (used_buckets h.counts))) (literal (codes "}") refl)

mean_quiet : (sum : ℤ) (count : ℕ) → Quiet (mean_value sum count)
mean_quiet sum count =
    both (both (both (both (literal (codes "{\"sum\":") refl) (signed_quiet sum)) (literal (codes ",\"count\":") refl)) (decimal_quiet count)) (literal (codes "}") refl)

held_quiet : (held : Held) → Quiet (entry_value held)
held_quiet (Counted n) = decimal_quiet n
held_quiet (Summed s) = signed_quiet s
held_quiet (Least m) = signed_quiet m
held_quiet (Greatest m) = signed_quiet m
held_quiet (Mean m) = mean_quiet m.sum m.count
held_quiet (Counts h) = histogram_quiet h

word_quiet : (function : AggFn) → Quiet (function_word function)
word_quiet Count = literal (codes "count") refl
word_quiet Sum = literal (codes "sum") refl
word_quiet Min = literal (codes "min") refl
word_quiet Max = literal (codes "max") refl
word_quiet Avg = literal (codes "avg") refl
word_quiet Quantize = literal (codes "quantize") refl
word_quiet (Lquantize r) = literal (codes "lquantize") refl

exit_quiet : (exit : Option (ℕ × ℕ)) → Quiet (exit_value exit)
exit_quiet None = literal (codes "null") refl
exit_quiet (Some exit) =
    both (both (both (both (literal (codes "{\"firing\":") refl) (decimal_quiet exit.0)) (literal (codes ",\"status\":") refl)) (decimal_quiet exit.1))
    (literal (codes "}") refl)

-- ---- lines

-- what a line other than the first ends with
closing : EndsOnce (codes "}\n")
closing = record { before = codes "}"; ends = refl; one = refl }

after : {xs ys : List ℕ} → Quiet xs → EndsOnce ys → EndsOnce (xs ++ ys)
after {xs} quiet line = record {
  before = xs ++ line.before;
  ends = ap (λ l. xs ++ l) line.ends ∙ sym (append_assoc xs line.before (10 ∷ []));
  one = (both quiet (literal line.before line.one)).none;
}

pub first_is_line : EndsOnce first_line
first_is_line = record { before = codes "{\"format\":\"dreplay-data\",\"version\":1}"; ends = refl; one = refl }

pub text_is_line : (text : ℕ × List ℕ) → EndsOnce (text_line text)
text_is_line text =
    after (both (both (both (literal (codes "{\"kind\":\"text\",\"firing\":") refl) (decimal_quiet text.0)) (literal (codes ",\"text\":") refl)) (text_quiet text.1)) closing

head_quiet : (index : ℕ) (name : List ℕ) (function : AggFn) → Quiet (entry_head index name function)
head_quiet index name function =
    both (both (both (both (both (both (literal (codes "{\"kind\":\"entry\",\"aggregation\":") refl) (decimal_quiet index))
    (literal (codes ",\"name\":") refl)) (text_quiet (written_name name))) (literal (codes ",\"function\":\"") refl)) (word_quiet function))
    (literal (codes "\",\"key\":") refl)

pub entry_is_line : (index : ℕ) (name : List ℕ) (function : AggFn) (entry : Entry) → EndsOnce (entry_line (entry_head index name function) entry)
entry_is_line index name function entry =
    after (both (both (both (head_quiet index name function) (array_quiet part_value part_quiet entry.0)) (literal (codes ",\"value\":") refl)) (held_quiet entry.1)) closing

pub last_is_line : (exit : Option (ℕ × ℕ)) (firings : ℕ) → EndsOnce (last_line exit firings)
last_is_line exit firings =
    after (both (both (both (literal (codes "{\"kind\":\"end\",\"exit\":") refl) (exit_quiet exit)) (literal (codes ",\"firings\":") refl)) (decimal_quiet firings)) closing
