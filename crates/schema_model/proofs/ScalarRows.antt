-- Spellings and readings of scalars by their bytes, each case of the definitions by an example.
use Rattle.std.specs.Prelude.{◌≡◌, [], ◌∷◌, pos, negsuc, true, false, Ok, Err, refl}
use Rattle.std.specs.Str.{is_utf8, chars}
use lib.Utf8.{encode}
use Rattle.schema_model.specs.Spelling.{number_bytes, text_head, spelling}
use Rattle.schema_model.specs.Reading.{number_at, number_of, wide_at, signed_at, unsigned_at, text_at, text_length, text_of, read_scalar}
use Rattle.schema_model.specs.Fits.{fits, is_of_kind}
use Rattle.schema_model.specs.declared.scalar.ScalarKind.TheVariants as kind
use Rattle.schema_model.specs.declared.value.Value.TheVariants as value
use Rattle.schema_model.specs.declared.fault.ReadFault.TheVariants.{Short, Fractional, TooWide, BadText, BadForm}

-- ---- `number` written: both ends of each form

number_0 : number_bytes (pos 0) ≡ 0 ∷ []
number_0 = refl

number_127 : number_bytes (pos 127) ≡ 127 ∷ []
number_127 = refl

number_128 : number_bytes (pos 128) ≡ 204 ∷ 128 ∷ []
number_128 = refl

number_255 : number_bytes (pos 255) ≡ 204 ∷ 255 ∷ []
number_255 = refl

number_256 : number_bytes (pos 256) ≡ 205 ∷ 0 ∷ 1 ∷ []
number_256 = refl

number_65535 : number_bytes (pos 65535) ≡ 205 ∷ 255 ∷ 255 ∷ []
number_65535 = refl

number_65536 : number_bytes (pos 65536) ≡ 206 ∷ 0 ∷ 0 ∷ 1 ∷ 0 ∷ []
number_65536 = refl

number_greatest : number_bytes (pos 2147483647) ≡ 206 ∷ 255 ∷ 255 ∷ 255 ∷ 127 ∷ []
number_greatest = refl

number_minus_1 : number_bytes (negsuc 0) ≡ 255 ∷ []
number_minus_1 = refl

number_minus_32 : number_bytes (negsuc 31) ≡ 224 ∷ []
number_minus_32 = refl

number_minus_33 : number_bytes (negsuc 32) ≡ 208 ∷ 223 ∷ []
number_minus_33 = refl

number_minus_128 : number_bytes (negsuc 127) ≡ 208 ∷ 128 ∷ []
number_minus_128 = refl

number_minus_129 : number_bytes (negsuc 128) ≡ 209 ∷ 127 ∷ 255 ∷ []
number_minus_129 = refl

number_minus_32769 : number_bytes (negsuc 32768) ≡ 210 ∷ 255 ∷ 127 ∷ 255 ∷ 255 ∷ []
number_minus_32769 = refl

number_least : number_bytes (negsuc 2147483647) ≡ 210 ∷ 0 ∷ 0 ∷ 0 ∷ 128 ∷ []
number_least = refl

-- ---- the heads of texts

head_0 : text_head 0 ≡ 160 ∷ []
head_0 = refl

head_31 : text_head 31 ≡ 191 ∷ []
head_31 = refl

head_32 : text_head 32 ≡ 217 ∷ 32 ∷ []
head_32 = refl

head_255 : text_head 255 ≡ 217 ∷ 255 ∷ []
head_255 = refl

head_256 : text_head 256 ≡ 218 ∷ 0 ∷ 1 ∷ []
head_256 = refl

head_65536 : text_head 65536 ≡ 219 ∷ 0 ∷ 0 ∷ 1 ∷ 0 ∷ []
head_65536 = refl

-- ---- the other kinds written

text_a : spelling kind.Str (value.Str (97 ∷ [])) ≡ 161 ∷ 97 ∷ []
text_a = refl

truth_true : spelling kind.Bool (value.Truth true) ≡ 1 ∷ []
truth_true = refl

truth_false : spelling kind.Bool (value.Truth false) ≡ 0 ∷ []
truth_false = refl

i8_minus_2 : spelling kind.I8 (value.Whole (negsuc 1)) ≡ 254 ∷ []
i8_minus_2 = refl

u8_200 : spelling kind.U8 (value.Whole (pos 200)) ≡ 200 ∷ []
u8_200 = refl

i16_minus_2 : spelling kind.I16 (value.Whole (negsuc 1)) ≡ 254 ∷ 255 ∷ []
i16_minus_2 = refl

u16_513 : spelling kind.U16 (value.Whole (pos 513)) ≡ 1 ∷ 2 ∷ []
u16_513 = refl

i32_minus_2 : spelling kind.I32 (value.Whole (negsuc 1)) ≡ 254 ∷ 255 ∷ 255 ∷ 255 ∷ []
i32_minus_2 = refl

u32_greatest : spelling kind.U32 (value.Whole (pos 4294967295)) ≡ 255 ∷ 255 ∷ 255 ∷ 255 ∷ []
u32_greatest = refl

no_spelling : spelling kind.Number (value.Truth true) ≡ []
no_spelling = refl

-- ---- `number` read: each form, also a longer one than is written, and each fault

read_5 : number_at (5 ∷ []) 0 ≡ Ok (pos 5, 1)
unfolding number_at number_of
read_5 = refl

read_minus_1 : number_at (255 ∷ []) 0 ≡ Ok (negsuc 0, 1)
unfolding number_at number_of
read_minus_1 = refl

read_long_5 : number_at (204 ∷ 5 ∷ []) 0 ≡ Ok (pos 5, 2)
unfolding number_at number_of unsigned_at
read_long_5 = refl

read_256 : number_at (7 ∷ 205 ∷ 0 ∷ 1 ∷ []) 1 ≡ Ok (pos 256, 4)
unfolding number_at number_of unsigned_at
read_256 = refl

read_greatest : number_at (206 ∷ 255 ∷ 255 ∷ 255 ∷ 127 ∷ []) 0 ≡ Ok (pos 2147483647, 5)
unfolding number_at number_of wide_at
read_greatest = refl

read_minus_128 : number_at (208 ∷ 128 ∷ []) 0 ≡ Ok (negsuc 127, 2)
unfolding number_at number_of signed_at
read_minus_128 = refl

read_minus_129 : number_at (209 ∷ 127 ∷ 255 ∷ []) 0 ≡ Ok (negsuc 128, 3)
unfolding number_at number_of signed_at
read_minus_129 = refl

read_least : number_at (210 ∷ 0 ∷ 0 ∷ 0 ∷ 128 ∷ []) 0 ≡ Ok (negsuc 2147483647, 5)
unfolding number_at number_of signed_at
read_least = refl

read_floating : number_at (202 ∷ []) 0 ≡ Err (Fractional 0)
unfolding number_at number_of
read_floating = refl

read_double : number_at (203 ∷ []) 0 ≡ Err (Fractional 0)
unfolding number_at number_of
read_double = refl

read_too_wide : number_at (206 ∷ 255 ∷ 255 ∷ 255 ∷ 255 ∷ []) 0 ≡ Err (TooWide 0)
unfolding number_at number_of wide_at
read_too_wide = refl

read_short_before_wide : number_at (206 ∷ 255 ∷ 255 ∷ []) 0 ≡ Err (Short 3)
unfolding number_at number_of wide_at
read_short_before_wide = refl

read_unsigned_64 : number_at (207 ∷ []) 0 ≡ Err (TooWide 0)
unfolding number_at number_of
read_unsigned_64 = refl

read_signed_64 : number_at (211 ∷ []) 0 ≡ Err (TooWide 0)
unfolding number_at number_of
read_signed_64 = refl

read_no_number : number_at (192 ∷ []) 0 ≡ Err (BadForm 0)
unfolding number_at number_of
read_no_number = refl

read_nothing : number_at [] 0 ≡ Err (Short 0)
unfolding number_at
read_nothing = refl

-- ---- the other kinds read

read_text : text_at (162 ∷ 97 ∷ 98 ∷ []) 0 ≡ Ok (97 ∷ 98 ∷ [], 3)
unfolding text_at text_length text_of is_utf8 chars encode
read_text = refl

read_text_long_head : text_at (217 ∷ 1 ∷ 97 ∷ []) 0 ≡ Ok (97 ∷ [], 3)
unfolding text_at text_length text_of is_utf8 chars encode
read_text_long_head = refl

read_text_longer_head : text_at (218 ∷ 1 ∷ 0 ∷ 97 ∷ []) 0 ≡ Ok (97 ∷ [], 4)
unfolding text_at text_length text_of is_utf8 chars encode
read_text_longer_head = refl

read_text_longest_head : text_at (219 ∷ 1 ∷ 0 ∷ 0 ∷ 0 ∷ 97 ∷ []) 0 ≡ Ok (97 ∷ [], 6)
unfolding text_at text_length text_of is_utf8 chars encode
read_text_longest_head = refl

read_bad_text : text_at (161 ∷ 255 ∷ []) 0 ≡ Err (BadText 0)
unfolding text_at text_length text_of is_utf8 chars encode
read_bad_text = refl

read_short_text : text_at (162 ∷ 255 ∷ []) 0 ≡ Err (Short 2)
unfolding text_at text_length text_of
read_short_text = refl

read_no_text : text_at (5 ∷ []) 0 ≡ Err (BadForm 0)
unfolding text_at text_length
read_no_text = refl

read_scalar_number : read_scalar (204 ∷ 5 ∷ []) 0 kind.Number ≡ Ok (value.Whole (pos 5), 2)
unfolding number_at number_of unsigned_at
read_scalar_number = refl

read_scalar_text : read_scalar (160 ∷ []) 0 kind.Str ≡ Ok (value.Str [], 1)
unfolding text_at text_length text_of is_utf8 chars encode
read_scalar_text = refl

read_truth : read_scalar (2 ∷ []) 0 kind.Bool ≡ Ok (value.Truth true, 1)
read_truth = refl

read_i8 : read_scalar (254 ∷ []) 0 kind.I8 ≡ Ok (value.Whole (negsuc 1), 1)
unfolding signed_at
read_i8 = refl

read_u8 : read_scalar (254 ∷ []) 0 kind.U8 ≡ Ok (value.Whole (pos 254), 1)
unfolding unsigned_at
read_u8 = refl

read_i16 : read_scalar (254 ∷ 255 ∷ []) 0 kind.I16 ≡ Ok (value.Whole (negsuc 1), 2)
unfolding signed_at
read_i16 = refl

read_u16 : read_scalar (1 ∷ 2 ∷ []) 0 kind.U16 ≡ Ok (value.Whole (pos 513), 2)
unfolding unsigned_at
read_u16 = refl

read_i32 : read_scalar (254 ∷ 255 ∷ 255 ∷ 255 ∷ []) 0 kind.I32 ≡ Ok (value.Whole (negsuc 1), 4)
unfolding signed_at
read_i32 = refl

read_u32 : read_scalar (255 ∷ 255 ∷ 255 ∷ []) 0 kind.U32 ≡ Err (Short 3)
unfolding unsigned_at
read_u32 = refl

-- ---- what fits

fits_least : fits kind.Number (value.Whole (negsuc 2147483647)) ≡ true
fits_least = refl

fits_not_below : fits kind.Number (value.Whole (negsuc 2147483648)) ≡ false
fits_not_below = refl

fits_u16 : fits kind.U16 (value.Whole (pos 65536)) ≡ false
fits_u16 = refl

fits_not_negative : fits kind.U8 (value.Whole (negsuc 0)) ≡ false
fits_not_negative = refl

fits_i8 : fits kind.I8 (value.Whole (negsuc 127)) ≡ true
fits_i8 = refl

fits_i16 : fits kind.I16 (value.Whole (pos 32768)) ≡ false
fits_i16 = refl

fits_i32 : fits kind.I32 (value.Whole (pos 2147483648)) ≡ false
fits_i32 = refl

fits_u32 : fits kind.U32 (value.Whole (pos 4294967295)) ≡ true
fits_u32 = refl

fits_text : fits kind.Str (value.Str (97 ∷ [])) ≡ true
fits_text = refl

fits_truth : fits kind.Bool (value.Truth false) ≡ true
fits_truth = refl

no_fit : fits kind.Bool (value.Link 0) ≡ false
no_fit = refl

no_text : fits kind.Str (value.Whole (pos 0)) ≡ false
no_text = refl

of_kind : is_of_kind kind.U8 (value.Whole (pos 300)) ≡ true
of_kind = refl

not_of_kind : is_of_kind kind.U8 (value.Str []) ≡ false
not_of_kind = refl

text_of_kind : is_of_kind kind.Str (value.Str []) ≡ true
text_of_kind = refl

text_not_of_kind : is_of_kind kind.Str (value.Whole (pos 0)) ≡ false
text_not_of_kind = refl

truth_of_kind : is_of_kind kind.Bool (value.Truth true) ≡ true
truth_of_kind = refl

truth_not_of_kind : is_of_kind kind.Bool (value.Whole (pos 0)) ≡ false
truth_not_of_kind = refl
