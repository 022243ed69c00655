mod Beyond
