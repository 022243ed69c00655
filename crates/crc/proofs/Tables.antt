-- The tables of the code, and by computing that they are the definition's rows and order. Assumes nothing.
use Rattle.std.proofs.Common.{◌≡◌, ℕ, zero, suc, ◌+◌, ◌/◌, ◌%◌, ◌<◌, ◌≤◌, Bool, true, ◌&&◌, eqb, ltb, List, [], ◌∷◌, map, length, refl, ap, ◌∙◌, arith}
use mathlib.Core.Bool.{xor}
use Rattle.base.specs.Counts.{any_below, all_below}
use Rattle.std.proofs.lemmas.Bool.{eqb-true}
use Rattle.crc.specs.Division.{listed, coefficients, added, divided}
use Rattle.crc.specs.Spread.{width, longest, rows, enters, placed}
use Rattle.crc.proofs.Occurrences.{occurrences, inside}
use Rattle.crc.proofs.Walks.{settled, none_has}
use Rattle.crc.specs.declared.spread.Spread.{Spread}
use Rattle.crc.specs.declared.spread.Spread.TheVariants.{Four, TwentyFour}
use Rattle.base.proofs.Counts.{all-at}

-- the l lowest bits of a number, the lowest first
unfoldable pub low_bits : ℕ → ℕ → List Bool
low_bits zero n = []
low_bits (suc l) n = eqb (n % 2) 1 ∷ low_bits l (n / 2)

-- row i as a number, with check bit j at 2 ^ j
unfoldable pub masks : Spread → List ℕ
masks Four =
    5 ∷ 10 ∷ 1 ∷ 2 ∷ 4 ∷ 8 ∷ 5 ∷ 10 ∷ []
masks TwentyFour =
    6953685 ∷ 13907370 ∷ 7958991 ∷ 15917982 ∷ 3464615 ∷ 6929230 ∷ 13858460 ∷ 7862179 ∷ 15724358 ∷ 967703 ∷
    1935406 ∷ 3870812 ∷ 7741624 ∷ 15483248 ∷ 628859 ∷ 1257718 ∷ 2515436 ∷ 5030872 ∷ 10061744 ∷ 14816763 ∷
    1388909 ∷ 2777818 ∷ 5555636 ∷ 11111272 ∷ 8522827 ∷ 13959693 ∷ 8068737 ∷ 16137474 ∷ 4022431 ∷ 8044862 ∷
    16089724 ∷ 3808867 ∷ 7617734 ∷ 15235468 ∷ 125315 ∷ 250630 ∷ 501260 ∷ 1002520 ∷ 2005040 ∷ 4010080 ∷ 8020160 ∷
    16040320 ∷ 3709339 ∷ 7418678 ∷ 14837356 ∷ 1431107 ∷ 2862214 ∷ 5724428 ∷ 11448856 ∷ 9207467 ∷ 13232077 ∷
    4379905 ∷ 8759810 ∷ 14306975 ∷ 6653861 ∷ 13307722 ∷ 4654095 ∷ 9308190 ∷ 13437607 ∷ 4919253 ∷ 9838506 ∷
    16590287 ∷ 2838789 ∷ 5677578 ∷ 11355156 ∷ 9147059 ∷ 12992509 ∷ 6120801 ∷ 12241602 ∷ 10784543 ∷ 9962661 ∷
    14750673 ∷ 1260857 ∷ 2521714 ∷ 5043428 ∷ 10086856 ∷ 14862603 ∷ 1345677 ∷ 2691354 ∷ 5382708 ∷ 10765416 ∷
    10064459 ∷ 14827021 ∷ 1402497 ∷ 2804994 ∷ 5609988 ∷ 11219976 ∷ 8876683 ∷ 14679949 ∷ 7267713 ∷ 14535426 ∷
    6982815 ∷ 13965630 ∷ 8071399 ∷ 16142798 ∷ 4045063 ∷ 8090126 ∷ 16180252 ∷ 3986083 ∷ 7972166 ∷ 15944332 ∷
    3641219 ∷ 7282438 ∷ 14564876 ∷ 7169667 ∷ 14339334 ∷ 6586519 ∷ 13173038 ∷ 4397255 ∷ 8794510 ∷ 14514567 ∷
    7072149 ∷ 14144298 ∷ 8305871 ∷ 16611742 ∷ 2877863 ∷ 5755726 ∷ 11511452 ∷ 9328547 ∷ 13481437 ∷ 4878625 ∷
    9757250 ∷ 16309791 ∷ 2139813 ∷ 4279626 ∷ 8559252 ∷ 13905843 ∷ 7947773 ∷ 15895546 ∷ 3411311 ∷ 6822622 ∷
    13645244 ∷ 7434723 ∷ 14869446 ∷ 1367319 ∷ 2734638 ∷ 5469276 ∷ 10938552 ∷ 10275819 ∷ 15240525 ∷ []

unfoldable pub places : Spread → List ℕ
places Four =
    0 ∷ 2 ∷ 6 ∷ 8 ∷ 1 ∷ 3 ∷ 7 ∷ 9 ∷ 4 ∷ 10 ∷ 5 ∷ 11 ∷ []
places TwentyFour =
    0 ∷ 2 ∷ 4 ∷ 7 ∷ 9 ∷ 14 ∷ 19 ∷ 20 ∷ 24 ∷ 25 ∷ 26 ∷ 28 ∷ 31 ∷ 34 ∷ 42 ∷ 45 ∷ 49 ∷ 50 ∷ 51 ∷ 53 ∷ 54 ∷ 56 ∷
    58 ∷ 59 ∷ 61 ∷ 62 ∷ 65 ∷ 66 ∷ 67 ∷ 69 ∷ 70 ∷ 71 ∷ 72 ∷ 76 ∷ 77 ∷ 81 ∷ 82 ∷ 83 ∷ 87 ∷ 88 ∷ 89 ∷ 91 ∷ 93 ∷
    95 ∷ 98 ∷ 101 ∷ 104 ∷ 106 ∷ 108 ∷ 110 ∷ 111 ∷ 113 ∷ 115 ∷ 118 ∷ 119 ∷ 120 ∷ 122 ∷ 123 ∷ 126 ∷ 127 ∷ 129 ∷
    132 ∷ 134 ∷ 138 ∷ 139 ∷ 140 ∷ 1 ∷ 3 ∷ 5 ∷ 8 ∷ 10 ∷ 15 ∷ 21 ∷ 27 ∷ 29 ∷ 32 ∷ 35 ∷ 43 ∷ 46 ∷ 52 ∷ 55 ∷ 57 ∷
    60 ∷ 63 ∷ 68 ∷ 73 ∷ 78 ∷ 84 ∷ 90 ∷ 92 ∷ 94 ∷ 96 ∷ 99 ∷ 102 ∷ 105 ∷ 107 ∷ 109 ∷ 112 ∷ 114 ∷ 116 ∷ 121 ∷ 124 ∷
    128 ∷ 130 ∷ 133 ∷ 135 ∷ 141 ∷ 6 ∷ 11 ∷ 16 ∷ 22 ∷ 30 ∷ 33 ∷ 36 ∷ 44 ∷ 47 ∷ 64 ∷ 74 ∷ 79 ∷ 85 ∷ 97 ∷ 100 ∷
    103 ∷ 117 ∷ 125 ∷ 131 ∷ 136 ∷ 142 ∷ 12 ∷ 17 ∷ 23 ∷ 37 ∷ 48 ∷ 75 ∷ 80 ∷ 86 ∷ 137 ∷ 143 ∷ 13 ∷ 18 ∷ 38 ∷ 144 ∷
    39 ∷ 145 ∷ 40 ∷ 146 ∷ 41 ∷ 147 ∷ 148 ∷ 149 ∷ 150 ∷ 151 ∷ 152 ∷ 153 ∷ 154 ∷ 155 ∷ 156 ∷ 157 ∷ 158 ∷ 159 ∷
    160 ∷ 161 ∷ 162 ∷ 163 ∷ []

pub rows-masks : (c : Spread) → rows c ≡ map (low_bits (width c)) (masks c)
unfolding rows masks low_bits coefficients listed added divided xor
rows-masks Four = refl
rows-masks TwentyFour = refl

placed-masks : (c : Spread) → placed (map (low_bits (width c)) (masks c)) (width c) ≡ places c
unfolding masks low_bits placed places enters any_below
placed-masks Four = refl
placed-masks TwentyFour = refl

pub placed-places : (c : Spread) → placed (rows c) (width c) ≡ places c
placed-places c = ap (λ r. placed r (width c)) (rows-masks c) ∙ placed-masks c

each-once : (c : Spread) → all_below (λ k. eqb (occurrences k (places c)) 1) (longest c + width c) ≡ true
unfolding places occurrences all_below
each-once Four = refl
each-once TwentyFour = refl

-- the longest payload's order has each bit of the word once
pub places-once : (c : Spread) (k : ℕ) → k < longest c + width c → occurrences k (places c) ≡ 1
places-once c k h = eqb-true (occurrences k (places c)) 1 (all-at (λ k. eqb (occurrences k (places c)) 1) (longest c + width c) (each-once c) k h)

pub places-long : (c : Spread) → length (places c) ≡ longest c + width c
unfolding places
places-long Four = refl
places-long TwentyFour = refl

-- no word is longer than the longest of 24 check bits
pub word-bounded : (c : Spread) → longest c + width c ≤ 164
word-bounded Four = omega arith
word-bounded TwentyFour = omega arith

pub places-inside : (c : Spread) → inside (longest c + width c) (places c) ≡ true
unfolding places inside
places-inside Four = refl
places-inside TwentyFour = refl

-- payload bit k of the longest payload enters check bit j, by the rows rs
abbrev pub enters_longest : Spread → List (List Bool) → ℕ → ℕ → Bool
enters_longest c rs j k = ltb k (longest c) && enters rs k j

masks-settled : (c : Spread) → settled (longest c) (enters_longest c (map (low_bits (width c)) (masks c))) (places c) ≡ true
unfolding places masks low_bits settled none_has enters
masks-settled Four = refl
masks-settled TwentyFour = refl

-- every payload bit stands before the check bits that it enters
pub places-settled : (c : Spread) → settled (longest c) (enters_longest c (rows c)) (places c) ≡ true
places-settled c = ap (λ rs. settled (longest c) (enters_longest c rs) (places c)) (rows-masks c) ∙ masks-settled c
