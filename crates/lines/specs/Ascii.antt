-- Letters and signs in ASCII, to spell names with.
use Rattle.std.specs.Prelude.{ℕ}

abbrev pub newline : ℕ
newline = 10

abbrev pub space : ℕ
space = 32

abbrev pub dash : ℕ
dash = 45

abbrev pub six : ℕ
six = 54

abbrev pub a : ℕ
a = 97

abbrev pub b : ℕ
b = 98

abbrev pub c : ℕ
c = 99

abbrev pub d : ℕ
d = 100

abbrev pub e : ℕ
e = 101

abbrev pub f : ℕ
f = 102

abbrev pub g : ℕ
g = 103

abbrev pub i : ℕ
i = 105

abbrev pub j : ℕ
j = 106

abbrev pub l : ℕ
l = 108

abbrev pub m : ℕ
m = 109

abbrev pub n : ℕ
n = 110

abbrev pub o : ℕ
o = 111

abbrev pub p : ℕ
p = 112

abbrev pub q : ℕ
q = 113

abbrev pub r : ℕ
r = 114

abbrev pub s : ℕ
s = 115

abbrev pub t : ℕ
t = 116

abbrev pub u : ℕ
u = 117

abbrev pub w : ℕ
w = 119

abbrev pub x : ℕ
x = 120

abbrev pub z : ℕ
z = 122
