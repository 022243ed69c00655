-- Worked examples of the spread order, from its definitions alone. Assumes nothing.
use Rattle.std.specs.Prelude.{◌≡◌, ℕ, Bool, true, false, List, [], ◌∷◌}
use Rattle.crc.specs.Spread.{interleaved, broken, order}
use Rattle.crc.specs.declared.spread.Spread.TheVariants.{Four, TwentyFour}

abbrev pub payload-of-one : List Bool
payload-of-one = true ∷ false ∷ false ∷ false ∷ false ∷ false ∷ false ∷ false ∷ []

abbrev pub word-of-one : List Bool
word-of-one = true ∷ false ∷ false ∷ true ∷ false ∷ false ∷ false ∷ false ∷ false ∷ true ∷ false ∷ false ∷ []

abbrev pub order-of-eight : List ℕ
order-of-eight = 0 ∷ 2 ∷ 6 ∷ 8 ∷ 1 ∷ 3 ∷ 7 ∷ 9 ∷ 4 ∷ 10 ∷ 5 ∷ 11 ∷ []

abbrev pub order-of-seven : List ℕ
order-of-seven = 1 ∷ 5 ∷ 7 ∷ 0 ∷ 2 ∷ 6 ∷ 8 ∷ 3 ∷ 9 ∷ 4 ∷ 10 ∷ []

abbrev pub SpreadOfEight : Type 0
SpreadOfEight =
    (interleaved Four payload-of-one ≡ word-of-one)
    × (broken Four 8 (true ∷ false ∷ false ∷ false ∷ []) ≡ true)
    × (order Four 8 ≡ order-of-eight)
    × (order Four 7 ≡ order-of-seven)

-- the input-bit interleaving pattern that 3GPP TS 38.212 prints for its longest payload
abbrev pub published-pattern : List ℕ
published-pattern =
    0 ∷ 2 ∷ 4 ∷ 7 ∷ 9 ∷ 14 ∷ 19 ∷ 20 ∷ 24 ∷ 25 ∷ 26 ∷ 28 ∷ 31 ∷ 34 ∷ 42 ∷ 45 ∷ 49 ∷ 50 ∷ 51 ∷ 53 ∷ 54 ∷ 56 ∷
    58 ∷ 59 ∷ 61 ∷ 62 ∷ 65 ∷ 66 ∷ 67 ∷ 69 ∷ 70 ∷ 71 ∷ 72 ∷ 76 ∷ 77 ∷ 81 ∷ 82 ∷ 83 ∷ 87 ∷ 88 ∷ 89 ∷ 91 ∷ 93 ∷
    95 ∷ 98 ∷ 101 ∷ 104 ∷ 106 ∷ 108 ∷ 110 ∷ 111 ∷ 113 ∷ 115 ∷ 118 ∷ 119 ∷ 120 ∷ 122 ∷ 123 ∷ 126 ∷ 127 ∷ 129 ∷
    132 ∷ 134 ∷ 138 ∷ 139 ∷ 140 ∷ 1 ∷ 3 ∷ 5 ∷ 8 ∷ 10 ∷ 15 ∷ 21 ∷ 27 ∷ 29 ∷ 32 ∷ 35 ∷ 43 ∷ 46 ∷ 52 ∷ 55 ∷ 57 ∷
    60 ∷ 63 ∷ 68 ∷ 73 ∷ 78 ∷ 84 ∷ 90 ∷ 92 ∷ 94 ∷ 96 ∷ 99 ∷ 102 ∷ 105 ∷ 107 ∷ 109 ∷ 112 ∷ 114 ∷ 116 ∷ 121 ∷
    124 ∷ 128 ∷ 130 ∷ 133 ∷ 135 ∷ 141 ∷ 6 ∷ 11 ∷ 16 ∷ 22 ∷ 30 ∷ 33 ∷ 36 ∷ 44 ∷ 47 ∷ 64 ∷ 74 ∷ 79 ∷ 85 ∷ 97 ∷
    100 ∷ 103 ∷ 117 ∷ 125 ∷ 131 ∷ 136 ∷ 142 ∷ 12 ∷ 17 ∷ 23 ∷ 37 ∷ 48 ∷ 75 ∷ 80 ∷ 86 ∷ 137 ∷ 143 ∷ 13 ∷ 18 ∷
    38 ∷ 144 ∷ 39 ∷ 145 ∷ 40 ∷ 146 ∷ 41 ∷ 147 ∷ 148 ∷ 149 ∷ 150 ∷ 151 ∷ 152 ∷ 153 ∷ 154 ∷ 155 ∷ 156 ∷ 157 ∷
    158 ∷ 159 ∷ 160 ∷ 161 ∷ 162 ∷ 163 ∷ []

abbrev pub SpreadAsPublished : Type 0
SpreadAsPublished = order TwentyFour 140 ≡ published-pattern
