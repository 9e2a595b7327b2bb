mod Nodes
mod Left
mod Numbers
mod Offers
mod Linking
