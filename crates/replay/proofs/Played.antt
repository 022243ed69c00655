-- One call played, from what the decoder promises of it. Assumes nothing.
use Rattle.std.proofs.Common.{◌≡◌, ℕ, ◌*◌, ◌≤◌, Bool, List, ◌++◌, map, length, take, drop, replicate, ℤ, pos, Some, None, Option, Ok, Err, Result, sym, refl, ap, ◌∙◌, subst, arith}
use Rattle.std.proofs.lemmas.List.{append-nil, drop_all, length-map, length-replicate}
use Rattle.base.specs.declared.refusal.Refusal.{Refusal}
use Rattle.code.specs.Sending.{byte_of}
use Rattle.search.specs.Calls as search
use Rattle.search.specs.Search.{advance_refusal, advanced, advancing, called, in_searching, shown_payload, unless_refused, word_refusal, wording}
use Rattle.search.specs.Stores.{Contents, ruled}
use Rattle.decoder.specs.Answers.{KeptIfRefused, met_of, figures_of, advance_verdict}
use Rattle.decoder.specs.States.{unless_blank}
use Rattle.decoder.specs.declared.phase.Phase.{Phase}
use Rattle.decoder.specs.declared.phase.Phase.TheVariants as phase
use Rattle.decoder.specs.declared.report.Met.{Met}
use Rattle.decoder.specs.declared.report.Met.TheVariants as met
use Rattle.decoder.specs.declared.report.Report.{Report}
use Rattle.replay.specs.Plays.{heard, held, met_from, output_left, scratch_left, size_in}
use Rattle.replay.specs.declared.call.Answer.TheVariants as answer
use Rattle.replay.specs.declared.payload.Payload.{Payload}
use Rattle.replay.proofs.Parts.{written-front, kept-front}

-- Advance

met-back : (word : List Bool) (m : Met) → m ≡ met_from (met_of word m)
met-back word met.Shown = refl
met-back word met.NoneLeft = refl
met-back word met.GivenUp = refl
met-back word met.Paused = refl

pub advance-heard : (word : List Bool) (m : Met) (r : Report) (a : search.Answer) → search.Advanced (met_of word m) (figures_of r) ≡ a → Ok (answer.Advanced m r) ≡ heard a
advance-heard word m r a e = ap (λ x. Ok (answer.Advanced x r)) (met-back word m) ∙ ap heard e

abbrev is_none : Option Refusal → Type 0
is_none None = Unit {0}
is_none (Some e) = ⊥

-- an advance that is granted finds a block loaded
pub granted-size :
    (p : Phase) (s : Contents) (d : search.Loaded Contents) (size budget scratch : ℕ) → None ≡ advance_verdict p size budget scratch → d.block.size ≡ size
    → size_in (unless_blank p s d) ≡ size
granted-size phase.Blank s d size budget scratch granted e = absurd (subst is_none granted tt)
granted-size phase.Searching s d size budget scratch granted e = e
granted-size (phase.Shown c) s d size budget scratch granted e = e
granted-size phase.Ended s d size budget scratch granted e = e

pub scratch-wiped :
    (d : search.Decoder Contents) (m : search.Met) (f : search.Figures) (a : search.Answer) (size : ℕ) (before after : List ℤ) → search.Advanced m f ≡ a → size_in d ≡ size
    → after ≡ replicate (2 * size) (pos 0) ++ drop (2 * size) before → after ≡ scratch_left d a before
scratch-wiped d m f a size before after e same wiped =
    wiped ∙ ap (λ n. replicate (2 * n) (pos 0) ++ drop (2 * n) before) (sym same) ∙ ap (λ x. scratch_left d x before) e

pub scratch-whole :
    (d : search.Decoder Contents) (a : search.Answer) (n : ℕ) (xs ys : List ℤ) → ys ≡ scratch_left d a (take n xs) → length ys ≡ length (take n xs)
    → ys ++ drop n xs ≡ scratch_left d a xs
scratch-whole d (search.Refused e) n xs ys left size = kept-front n xs ys left
scratch-whole d (search.Reported f) n xs ys left size = kept-front n xs ys left
scratch-whole d (search.Advanced m f) n xs ys left size =
    written-front n (2 * size_in d) (replicate (2 * size_in d) (pos 0)) xs ys (length-replicate (2 * size_in d) (pos 0)) left size
scratch-whole d (search.Payload bits) n xs ys left size = kept-front n xs ys left

-- Word

pub word-heard : (bits : List Bool) (a : search.Answer) (p : Payload) (bytes : List ℕ) → search.Payload bits ≡ a → p ≡ held bytes → bytes ≡ map byte_of bits → Ok (answer.Payload p) ≡ heard a
word-heard bits a p bytes e copied written = ap (λ x. Ok (answer.Payload x)) (copied ∙ ap held written) ∙ ap heard e

pub word-written :
    (d : search.Decoder Contents) (bits : List Bool) (a : search.Answer) (before after : List ℕ) → search.Payload bits ≡ a → after ≡ map byte_of bits → length after ≡ length before
    → after ≡ output_left d a before
word-written d bits a before after e written size =
    let all : length before ≤ length bits = let p = ap length written in let q = length-map bits byte_of in omega arith in
    written ∙ sym (ap (λ ys. map byte_of bits ++ ys) (drop_all (length bits) before all) ∙ append-nil (map byte_of bits)) ∙ ap (λ x. output_left d x before) e

pub output-whole :
    (d : search.Decoder Contents) (a : search.Answer) (n : ℕ) (xs ys : List ℕ) → ys ≡ output_left d a (take n xs) → length ys ≡ length (take n xs)
    → ys ++ drop n xs ≡ output_left d a xs
output-whole d (search.Refused e) n xs ys left size = kept-front n xs ys left
output-whole d (search.Reported f) n xs ys left size = kept-front n xs ys left
output-whole d (search.Advanced m f) n xs ys left size = kept-front n xs ys left
output-whole d (search.Payload bits) n xs ys left size = written-front n (length bits) (map byte_of bits) xs ys (length-map bits byte_of) left size

-- a word call changes neither the decoder nor scratch, an advance not the output

word-answers : (d : search.Decoder Contents) (l : search.Loaded Contents) (p : search.Phase) (n : ℕ) (xs : List ℤ) → ((wording l p n).0 ≡ search.Busy l) × (xs ≡ scratch_left d (wording l p n).1 xs)
word-answers d l search.Searching n xs = (refl, refl)
word-answers d l (search.Shown c) n xs = go (word_refusal l n)
  where
    go : (o : Option Refusal) → ((unless_refused (search.Busy l) o (search.Busy l, search.Payload (shown_payload l c))).0 ≡ search.Busy l) × (xs ≡ scratch_left d (unless_refused (search.Busy l) o (search.Busy l, search.Payload (shown_payload l c))).1 xs)
    go None = (refl, refl)
    go (Some e) = (refl, refl)
word-answers d l search.Ended n xs = (refl, refl)

pub word-spares : (d : search.Decoder Contents) (n : ℕ) (xs : List ℤ) → ((called ruled d (search.Word n)).0 ≡ d) × (xs ≡ scratch_left d (called ruled d (search.Word n)).1 xs)
word-spares (search.Blank s) n xs = (refl, refl)
word-spares (search.Busy l) n xs = word-answers (search.Busy l) l l.phase n xs

advance-answers : (d : search.Decoder Contents) (l : search.Loaded Contents) (p : search.Phase) (b n : ℕ) (xs : List ℕ) → xs ≡ output_left d (in_searching ruled l p b n).1 xs
advance-answers d l search.Searching b n xs = go (advance_refusal l b n)
  where
    go : (o : Option Refusal) → xs ≡ output_left d (unless_refused (search.Busy l) o (advancing ruled (advanced ruled b l))).1 xs
    go None = refl
    go (Some e) = refl
advance-answers d l (search.Shown c) b n xs = refl
advance-answers d l search.Ended b n xs = refl

pub advance-spares : (d : search.Decoder Contents) (b n : ℕ) (xs : List ℕ) → xs ≡ output_left d (called ruled d (search.Advance b n)).1 xs
advance-spares (search.Blank s) b n xs = refl
advance-spares (search.Busy l) b n xs = advance-answers (search.Busy l) l l.phase b n xs

-- Refusals

pub kept_same : {X D : Type 0} (r : Result X Refusal) (x : D) → KeptIfRefused r x x
kept_same (Ok a) x = tt
kept_same (Err e) x = refl

pub kept_whole : {X Y : Type 0} (r : Result Y Refusal) (n : ℕ) (xs ys : List X) → KeptIfRefused r (take n xs) ys → KeptIfRefused r xs (ys ++ drop n xs)
kept_whole (Ok a) n xs ys h = tt
kept_whole (Err e) n xs ys h = kept-front n xs ys h
